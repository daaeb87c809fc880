-- What the table says of the state in which a service is permitted.
use Rattle.std.proofs.Common.{◌≡◌, ◌≢◌, ◌⊎◌, true, false, refl, inl, inr}
use Rattle.service_table.specs.declared.service.Service.TheVariants as service
use Rattle.module_frames.specs.Requests.{RequestValue, service_for}
use Rattle.module_frames.specs.Requests as request
use Rattle.service_table.specs.declared.state.State.{State}
use Rattle.service_table.specs.declared.state.State.TheVariants as state
use Rattle.service_table.specs.Services.{is_permitted}
use Rattle.module_frames.specs.PublicEffects.{return_from}
use Rattle.state_model.specs.MachineState.{IsReturn}

pub off_for_power_on : (found : State) → is_permitted service.PowerOn found ≡ true → found ≡ state.Off
off_for_power_on state.Off h = refl
off_for_power_on _ h = cc

pub testing_for_test_step : (found : State) → is_permitted service.TestStep found ≡ true → found ≡ state.SelfTest
testing_for_test_step state.SelfTest h = refl
testing_for_test_step _ h = cc

pub return_for_request_tests : (found : State) → is_permitted service.RequestTests found ≡ true → IsReturn (return_from found)
return_for_request_tests state.Init h = tt
return_for_request_tests state.Approved h = tt
return_for_request_tests state.Officer h = tt
return_for_request_tests state.User h = tt
return_for_request_tests state.Off h = cc
return_for_request_tests state.SelfTest h = cc
return_for_request_tests state.Entry h = cc
return_for_request_tests state.Error h = cc

pub not_entering_for_request_tests : (found : State) → is_permitted service.RequestTests found ≡ true → found ≢ state.Entry
not_entering_for_request_tests state.Entry h = λ e. cc
not_entering_for_request_tests _ h = λ e. cc

pub not_failed_for_request_tests : (found : State) → is_permitted service.RequestTests found ≡ true → found ≢ state.Error
not_failed_for_request_tests state.Error h = λ e. cc
not_failed_for_request_tests _ h = λ e. cc

-- a state of use: no role, or one of the two
pub return_for_select_role : (found : State) → is_permitted service.SelectRole found ≡ true → IsReturn found
return_for_select_role state.Approved h = tt
return_for_select_role state.Officer h = tt
return_for_select_role state.User h = tt
return_for_select_role state.Off h = cc
return_for_select_role state.Init h = cc
return_for_select_role state.SelfTest h = cc
return_for_select_role state.Entry h = cc
return_for_select_role state.Error h = cc

pub officer_for_entry_begin : (found : State) → is_permitted service.EntryBegin found ≡ true → found ≡ state.Officer
officer_for_entry_begin state.Officer h = refl
officer_for_entry_begin _ h = cc

-- the three services of an entry are permitted in the same state
pub entering_for_entry_bytes : (found : State) → is_permitted service.EntryBytes found ≡ true → found ≡ state.Entry
entering_for_entry_bytes state.Entry h = refl
entering_for_entry_bytes _ h = cc

-- zeroising is permitted to the officer
pub officer_for_zeroise : (found : State) → is_permitted service.Zeroise found ≡ true → found ≡ state.Officer
officer_for_zeroise state.Officer h = refl
officer_for_zeroise _ h = cc

-- so are the digest and the display of a slot, in a role
pub role_for_hash : (found : State) → is_permitted service.Hash found ≡ true → (found ≡ state.Officer) ⊎ (found ≡ state.User)
role_for_hash state.Officer h = inl refl
role_for_hash state.User h = inr refl
role_for_hash _ h = cc

-- what is permitted to a user is permitted in a role
pub hash_for_mac : (found : State) → is_permitted service.Mac found ≡ true → is_permitted service.Hash found ≡ true
hash_for_mac state.User h = refl
hash_for_mac _ h = cc

-- and so is what is permitted to the officer
pub hash_for_zeroise : (found : State) → is_permitted service.Zeroise found ≡ true → is_permitted service.Hash found ≡ true
hash_for_zeroise state.Officer h = refl
hash_for_zeroise _ h = cc

pub return_is_not_entry : (found : State) → IsReturn found → found ≢ state.Entry
return_is_not_entry state.Entry h = absurd h
return_is_not_entry _ h = λ e. cc

pub return_is_settled : (found : State) → IsReturn found → found ≢ state.SelfTest
return_is_settled state.SelfTest h = absurd h
return_is_settled _ h = λ e. cc

pub return_is_powered : (found : State) → IsReturn found → found ≢ state.Off
return_is_powered state.Off h = absurd h
return_is_powered _ h = λ e. cc

pub return_is_faultless : (found : State) → IsReturn found → found ≢ state.Error
return_is_faultless state.Error h = absurd h
return_is_faultless _ h = λ e. cc

-- a role is a state to which tests return
pub return_for_hash : (found : State) → is_permitted service.Hash found ≡ true → IsReturn found
return_for_hash state.Officer h = tt
return_for_hash state.User h = tt
return_for_hash state.Off h = cc
return_for_hash state.Init h = cc
return_for_hash state.SelfTest h = cc
return_for_hash state.Approved h = cc
return_for_hash state.Entry h = cc
return_for_hash state.Error h = cc

-- only TestStep asks for the service of that name
pub is_test_step : (what : RequestValue) → service_for what ≡ service.TestStep → what ≡ request.TestStep
is_test_step request.TestStep is = refl
is_test_step (request.PowerOn period) is = cc
is_test_step request.RequestTests is = cc
is_test_step request.ShowStatus is = cc
is_test_step request.ShowVersion is = cc
is_test_step (request.SelectRole role) is = cc
is_test_step request.Reset is = cc
is_test_step (request.EntryBegin slot header long) is = cc
is_test_step (request.EntryBytes piece) is = cc
is_test_step (request.EntryCommit check) is = cc
is_test_step request.EntryAbort is = cc
is_test_step (request.Zeroise slot) is = cc
is_test_step request.ZeroiseAll is = cc
is_test_step (request.ShowSlot slot) is = cc
is_test_step (request.ZeroiseTree slot) is = cc
is_test_step (request.Cryptographic (request.Hash alg text)) is = cc
is_test_step (request.Cryptographic (request.Mac slot alg mac_length text)) is = cc
is_test_step (request.Cryptographic (request.MacVerify slot alg tag text)) is = cc
is_test_step (request.Cryptographic (request.Seal slot tag_length aad text)) is = cc
is_test_step (request.Cryptographic (request.SealIv slot tag_length iv aad text)) is = cc
is_test_step (request.Cryptographic (request.Open slot iv aad text tag)) is = cc
is_test_step (request.Cryptographic (request.Wrap true kek second)) is = cc
is_test_step (request.Cryptographic (request.Wrap false kek second)) is = cc
is_test_step (request.Cryptographic (request.Unwrap true kek target kind export uses wrapped)) is = cc
is_test_step (request.Cryptographic (request.Unwrap false kek target kind export uses wrapped)) is = cc
is_test_step (request.Cryptographic (request.Derive source target kind export uses long label context)) is = cc
is_test_step (request.Cryptographic (request.Random long additional)) is = cc
is_test_step (request.Cryptographic (request.Generate target header long)) is = cc
is_test_step (request.Cryptographic (request.Reseed additional)) is = cc

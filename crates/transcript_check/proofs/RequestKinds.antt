-- Facts about requests by their service.
use Rattle.std.proofs.Common.{◌≡◌, ◌≢◌, ℕ, true, false, Option, refl, subst}
use Rattle.std.specs.Option.{option_map}
use Rattle.bits_core.specs.declared.algorithm.Alg.{Alg}
use Rattle.service_table.specs.KnownAnswers.{test_of}
use Rattle.service_table.specs.Services.{is_cryptographic, is_permitted}
use Rattle.service_table.specs.declared.failure.Failure.TheVariants as failure
use Rattle.service_table.specs.declared.state.State.{State}
use Rattle.service_table.specs.declared.state.State.TheVariants as state
use Rattle.module_frames.specs.LawfulSteps.{alg_named, test_failure}
use Rattle.module_frames.specs.Requests.{RequestValue, CryptographicRequest, service_for, cryptographic_service_for}
use Rattle.module_frames.specs.Requests as request

-- a request for a cryptographic service
pub cryptographic_request : (requested : RequestValue) → is_cryptographic (service_for requested) ≡ true → (what : CryptographicRequest) × (requested ≡ request.Cryptographic what)
cryptographic_request (request.PowerOn period) is = cc
cryptographic_request request.TestStep is = cc
cryptographic_request request.RequestTests is = cc
cryptographic_request request.ShowStatus is = cc
cryptographic_request request.ShowVersion is = cc
cryptographic_request (request.SelectRole role) is = cc
cryptographic_request request.Reset is = cc
cryptographic_request (request.EntryBegin slot header long) is = cc
cryptographic_request (request.EntryBytes piece) is = cc
cryptographic_request (request.EntryCommit check) is = cc
cryptographic_request request.EntryAbort is = cc
cryptographic_request (request.Zeroise slot) is = cc
cryptographic_request request.ZeroiseAll is = cc
cryptographic_request (request.ShowSlot slot) is = cc
cryptographic_request (request.ZeroiseTree slot) is = cc
cryptographic_request (request.Cryptographic what) is = (what, refl)

-- what fails where a request answers TestFailed, by its service and the hash function that it names
pub test_failure_by : (requested : RequestValue) (alg : Option Alg) (tests_done : ℕ) → ((what : CryptographicRequest) → requested ≡ request.Cryptographic what → alg ≡ alg_named what)
    → requested ≢ request.TestStep → test_failure requested tests_done ≡ option_map (λ test. failure.KnownAnswer test) (test_of (service_for requested) alg)
test_failure_by (request.PowerOn period) alg n names other = refl
test_failure_by request.TestStep alg n names other = absurd (other refl)
test_failure_by request.RequestTests alg n names other = refl
test_failure_by request.ShowStatus alg n names other = refl
test_failure_by request.ShowVersion alg n names other = refl
test_failure_by (request.SelectRole role) alg n names other = refl
test_failure_by request.Reset alg n names other = refl
test_failure_by (request.EntryBegin slot header long) alg n names other = refl
test_failure_by (request.EntryBytes piece) alg n names other = refl
test_failure_by (request.EntryCommit check) alg n names other = refl
test_failure_by request.EntryAbort alg n names other = refl
test_failure_by (request.Zeroise slot) alg n names other = refl
test_failure_by request.ZeroiseAll alg n names other = refl
test_failure_by (request.ShowSlot slot) alg n names other = refl
test_failure_by (request.ZeroiseTree slot) alg n names other = refl
test_failure_by (request.Cryptographic what) alg n names other = rw (names what refl) refl

-- a cryptographic service isn't permitted in the state Error
pub cryptographic_outside_error : (what : CryptographicRequest) → is_permitted (cryptographic_service_for what) state.Error ≡ false
cryptographic_outside_error (request.Hash alg text) = refl
cryptographic_outside_error (request.Mac slot alg mac_length text) = refl
cryptographic_outside_error (request.MacVerify slot alg tag text) = refl
cryptographic_outside_error (request.Seal slot tag_length aad text) = refl
cryptographic_outside_error (request.SealIv slot tag_length iv aad text) = refl
cryptographic_outside_error (request.Open slot iv aad text tag) = refl
cryptographic_outside_error (request.Wrap true kek second) = refl
cryptographic_outside_error (request.Wrap false kek second) = refl
cryptographic_outside_error (request.Unwrap true kek target kind export uses wrapped) = refl
cryptographic_outside_error (request.Unwrap false kek target kind export uses wrapped) = refl
cryptographic_outside_error (request.Derive source target kind export uses long label context) = refl
cryptographic_outside_error (request.Random long additional) = refl
cryptographic_outside_error (request.Generate target header long) = refl
cryptographic_outside_error (request.Reseed additional) = refl

-- where a service is permitted that isn't in Error, the state isn't Error
pub not_error : (requested : RequestValue) (found : State) → is_permitted (service_for requested) state.Error ≡ false → is_permitted (service_for requested) found ≡ true → found ≢ state.Error
not_error requested found never is error = let there : is_permitted (service_for requested) state.Error ≡ true = subst (λ s. is_permitted (service_for requested) s ≡ true) error is in cc

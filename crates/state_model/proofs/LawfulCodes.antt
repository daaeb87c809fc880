-- The error code is 0 exactly outside Error, and stays there until Reset.
use Rattle.std.proofs.Common.{◌≡◌, ◌≢◌, ℕ, List, refl, ap, ◌∙◌, arith}
use Rattle.std.specs.Prelude.{◌==◌, not, true, false}
use Rattle.std.proofs.lemmas.Bool.Decides.{nat_tests}
use Rattle.service_table.specs.Failures.{failure_code}
use Rattle.service_table.specs.declared.failure.Failure.{Failure}
use Rattle.service_table.specs.declared.failure.Failure.TheVariants as failure
use Rattle.service_table.specs.declared.service.Service.TheVariants as service
use Rattle.service_table.specs.declared.state.State.{State}
use Rattle.service_table.specs.declared.state.State.TheVariants as state
use Rattle.outside.specs.declared.traits.Sample.{Sample}
use Rattle.module_frames.specs.declared.public_state.PublicState.{PublicState}
use Rattle.module_frames.specs.LawfulSteps.{is_error}
use Rattle.module_frames.specs.Requests.{RequestValue, service_for}
use Rattle.module_frames.specs.Requests as request
use Rattle.engine_core.specs.Calls.{Calls}
use Rattle.state_model.specs.MachineState.{MachineState, IsPublicState, IsFailureCode, state_of}
use Rattle.state_model.specs.Permission.{IsPermittedIn}
use Rattle.state_model.specs.Step.{perform}
use Rattle.state_model.proofs.Keeping.{hash_for_cryptographic}
use Rattle.state_model.proofs.Permitted.{return_for_hash, return_is_faultless, testing_for_test_step, entering_for_entry_bytes}

-- no failure has the code 0
code_of_failure : (reason : Failure) → (failure_code reason == 0) ≡ false
code_of_failure (failure.KnownAnswer test) = grind (arith, nat_tests)
code_of_failure failure.Integrity = refl
code_of_failure failure.NoiseEnded = refl
code_of_failure failure.NoiseFailed = refl
code_of_failure failure.Repetition = refl
code_of_failure failure.Proportion = refl

code_of_none : (code : ℕ) → code ≡ 0 → (code == 0) ≡ true
code_of_none code none = rw none refl

failed_code : (code : ℕ) → IsFailureCode code → (code == 0) ≡ false
failed_code code is = ap (λ n. n == 0) is.2 ∙ code_of_failure is.0

told : (found : State) (code : ℕ) → (found ≢ state.Error → code ≡ 0) → (found ≡ state.Error → IsFailureCode code) → (code == 0) ≡ not (is_error found)
told state.Error code none failed = failed_code code (failed refl)
told state.Off code none failed = code_of_none code (none (λ e. cc))
told state.Init code none failed = code_of_none code (none (λ e. cc))
told state.SelfTest code none failed = code_of_none code (none (λ e. cc))
told state.Approved code none failed = code_of_none code (none (λ e. cc))
told state.Officer code none failed = code_of_none code (none (λ e. cc))
told state.User code none failed = code_of_none code (none (λ e. cc))
told state.Entry code none failed = code_of_none code (none (λ e. cc))

pub code_told : (public : PublicState) → IsPublicState public → (public.error_code == 0) ≡ not (is_error public.state)
code_told public rules = told public.state public.error_code rules.faultless rules.failed

-- what is done in Error, but Reset, leaves the code
pub code_stays : {V : Type 0} (calls : Calls V) (s : MachineState V) (events : List Sample) (what : RequestValue) → IsPermittedIn what (state_of s) → state_of s ≡ state.Error → service_for what ≢ service.Reset
    → (perform calls s events what).machine.shared.public.error_code ≡ s.shared.public.error_code
code_stays calls s events request.Reset allowed failed other = absurd (other refl)
code_stays calls s events request.TestStep allowed failed other = let testing = testing_for_test_step (state_of s) allowed in cc
code_stays calls s events (request.EntryBytes piece) allowed failed other = let entering = entering_for_entry_bytes (state_of s) allowed in cc
code_stays calls s events (request.Cryptographic what) allowed failed other =
    let in_role = return_for_hash (state_of s) (hash_for_cryptographic what (state_of s) allowed) in absurd (return_is_faultless (state_of s) in_role failed)
code_stays calls s events (request.PowerOn period) allowed failed other = refl
code_stays calls s events request.RequestTests allowed failed other = refl
code_stays calls s events request.ShowStatus allowed failed other = refl
code_stays calls s events request.ShowVersion allowed failed other = refl
code_stays calls s events (request.SelectRole role) allowed failed other = refl
code_stays calls s events (request.EntryBegin slot header long) allowed failed other = refl
code_stays calls s events (request.EntryCommit check) allowed failed other = refl
code_stays calls s events request.EntryAbort allowed failed other = refl
code_stays calls s events (request.Zeroise slot) allowed failed other = refl
code_stays calls s events (request.ZeroiseTree slot) allowed failed other = refl
code_stays calls s events request.ZeroiseAll allowed failed other = refl
code_stays calls s events (request.ShowSlot slot) allowed failed other = refl

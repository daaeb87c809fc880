-- What a request leaves, found by tests.
use Rattle.std.proofs.Common.{◌≡◌, ◌≢◌, ℕ, Bool, true, false, Some, refl, sym, ap, ◌∙◌, arith}
use Rattle.std.specs.Prelude.{◌==◌}
use Rattle.std.specs.Bool.{then_some}
use Rattle.std.proofs.lemmas.Bool.Decides.{nat_tests}
use Rattle.service_table.specs.Answers.{is_status_among}
use Rattle.service_table.specs.Failures.{failure_code}
use Rattle.service_table.specs.declared.failure.Failure.{Failure}
use Rattle.service_table.specs.declared.status.Status.{Status}
use Rattle.service_table.specs.declared.status.Status.TheVariants as status
use Rattle.module_frames.specs.LawfulSteps.{counted, failures, is_of_noise, is_ok, left_by, test_failure}
use Rattle.module_frames.specs.PublicEffects.{has_failed}
use Rattle.module_frames.specs.RequestValues.{RequestValue, TestStep}
use Rattle.module_frames.specs.declared.public_state.PublicState.{PublicState}
use Rattle.transcript_check.specs.Effects.{Leaves, LeavesAt}
use Rattle.transcript_check.proofs.Successors.{same_reason, same_noise}

-- what is left with a status, and nothing else with it and an error code
pub record IsOnly (requested : RequestValue) (found : PublicState) (outcome : Status) (code : ℕ) (after : PublicState) : Type 0 where
  pub leaves : Leaves requested found outcome after
  pub only : (other : PublicState) → Leaves requested found outcome other → other.error_code ≡ code → other ≡ after

by_code : (requested : RequestValue) (found : PublicState) (outcome : Status) (code : ℕ) (after : PublicState) (same : Bool) → (after.error_code == code) ≡ same
    → IsOnly requested found outcome code after → LeavesAt requested found outcome code (then_some same after)
by_code requested found outcome code after true test is = let codes : after.error_code ≡ code = grind (arith, nat_tests, test) in (is.leaves, codes)
by_code requested found outcome code after false test is = λ other leaves codes.
    let same = is.only other leaves codes in
    let wrong : after.error_code ≡ code = sym (ap (λ (p : PublicState). p.error_code) same) ∙ codes in
    let differ : after.error_code ≢ code = grind (arith, nat_tests, test) in
    absurd (differ wrong)

pub left_when : (requested : RequestValue) (found : PublicState) (outcome : Status) (code : ℕ) (after : PublicState) → IsOnly requested found outcome code after
    → LeavesAt requested found outcome code (then_some (after.error_code == code) after)
left_when requested found outcome code after is = by_code requested found outcome code after (after.error_code == code) refl is

-- a test failed
pub after_test : (requested : RequestValue) (found : PublicState) (outcome : Status) (code : ℕ) (after : PublicState) (reason : Failure) → outcome ≡ status.TestFailed
    → test_failure requested found.tests_done ≡ Some reason → after ≡ has_failed reason (counted requested found) → IsOnly requested found outcome code after
after_test requested found outcome code after reason is told leads = record {
  leaves = record { failure = record { test = λ _. (reason, told, leads); noise = λ e. absurd (not_both e); seed = λ e. absurd (not_both e) }; effect = λ fine. absurd (not_fine fine) };
  only = λ other leaves codes.
      let test = leaves.failure.test is in
      test.2 ∙ ap (λ (r : Failure). has_failed r (counted requested found)) (same_reason test.0 reason (sym test.1 ∙ told)) ∙ sym leads;
}
  where
    not_both : outcome ≡ status.NoiseFault → ⊥
    not_both e = let same : Path Status status.TestFailed status.NoiseFault = sym is ∙ e in cc

    not_fine : is_status_among failures outcome ≡ false → ⊥
    not_fine fine = let failed : is_status_among failures outcome ≡ true = ap (is_status_among failures) is in cc

-- the noise failed
pub after_noise : (requested : RequestValue) (found : PublicState) (outcome : Status) (code : ℕ) (after : PublicState) (reason : Failure) → outcome ≡ status.NoiseFault
    → (requested ≡ TestStep → found.tests_done ≡ 2) → is_of_noise reason ≡ true → failure_code reason ≡ code → after ≡ has_failed reason (counted requested found) → IsOnly requested found outcome code after
after_noise requested found outcome code after reason is last noise coded leads = record {
  leaves = record { failure = record { test = λ e. absurd (not_both e); noise = λ _. (reason, noise, leads); seed = λ _ step. last step }; effect = λ fine. absurd (not_fine fine) };
  only = λ other leaves codes.
      let fault = leaves.failure.noise is in
      let at_code : failure_code fault.0 ≡ code = sym (ap (λ (p : PublicState). p.error_code) fault.2) ∙ codes in
      fault.2 ∙ ap (λ (r : Failure). has_failed r (counted requested found)) (same_noise fault.0 reason fault.1 noise (at_code ∙ sym coded)) ∙ sym leads;
}
  where
    not_both : outcome ≡ status.TestFailed → ⊥
    not_both e = let same : Path Status status.NoiseFault status.TestFailed = sym is ∙ e in cc

    not_fine : is_status_among failures outcome ≡ false → ⊥
    not_fine fine = let failed : is_status_among failures outcome ≡ true = ap (is_status_among failures) is in cc

not_failed : (outcome : Status) → outcome ≢ status.TestFailed → outcome ≢ status.NoiseFault → is_status_among failures outcome ≡ false
not_failed status.TestFailed test noise = absurd (test refl)
not_failed status.NoiseFault test noise = absurd (noise refl)
not_failed status.Ok test noise = refl
not_failed status.UnknownService test noise = refl
not_failed status.NotInState test noise = refl
not_failed status.BadBody test noise = refl
not_failed status.EmptySlot test noise = refl
not_failed status.WrongKind test noise = refl
not_failed status.WrongDomain test noise = refl
not_failed status.Spent test noise = refl
not_failed status.OccupiedSlot test noise = refl
not_failed status.NotExportable test noise = refl
not_failed status.BadLength test noise = refl
not_failed status.CheckFailed test noise = refl
not_failed status.AuthFailed test noise = refl
not_failed status.UnwrapFailed test noise = refl
not_failed status.OutOfOrder test noise = refl

-- nothing failed
pub after_none : (requested : RequestValue) (found : PublicState) (outcome : Status) (code : ℕ) (after : PublicState) → outcome ≢ status.TestFailed → outcome ≢ status.NoiseFault
    → after ≡ left_by requested (is_ok outcome) found → IsOnly requested found outcome code after
after_none requested found outcome code after test noise leads = record {
  leaves = record { failure = record { test = λ e. absurd (test e); noise = λ e. absurd (noise e); seed = λ e. absurd (noise e) }; effect = λ _. leads };
  only = λ other leaves codes. leaves.effect (not_failed outcome test noise) ∙ sym leads;
}

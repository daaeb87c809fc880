-- What the services make of the public state keeps its rules.
use Rattle.std.proofs.Common.{◌≡◌, ◌≤◌, ◌+◌, ℕ, Bool, true, false, refl, ◌∙◌, arith, if◌then◌else◌}
use Rattle.std.specs.Prelude.{◌==◌, ◌&&◌, nat_lt, not}
use Rattle.std.proofs.lemmas.Bool.Decides.{nat_tests}
use Rattle.service_table.specs.declared.service.Service.TheVariants as service
use Rattle.service_table.specs.declared.state.State.{State}
use Rattle.service_table.specs.declared.state.State.TheVariants as state
use Rattle.service_table.specs.Numbers.{state_number}
use Rattle.service_table.specs.Services.{is_permitted}
use Rattle.module_frames.specs.declared.public_state.PublicState.{PublicState}
use Rattle.module_frames.specs.PublicEffects.{sequence_taken, powered_on, tests_requested, test_done, role_state, role_selected, was_reset, entry_begun, entry_ended, use_counted, is_period_over, sent_to_tests, has_failed}
use Rattle.service_table.specs.declared.failure.Failure.{Failure}
use Rattle.state_model.specs.MachineState.{IsPublicState, IsReturn, IsFailure}
use Rattle.state_model.proofs.Permitted.{return_for_request_tests, not_failed_for_request_tests, return_is_settled, return_is_powered, return_is_faultless}

-- a number was taken
pub sequence_taken_kept : (public : PublicState) → IsPublicState public → IsPublicState (sequence_taken public)
sequence_taken_kept public rules = record {
  period = rules.period;
  counting = rules.counting;
  uncounted = rules.uncounted;
  unpowered = rules.unpowered;
  testing = rules.testing;
  settled = rules.settled;
  faultless = rules.faultless;
  failed = rules.failed;
  sequence = omega arith;
}

pub powered_on_kept : (public : PublicState) (period : ℕ) → IsPublicState public → public.state ≡ state.Off → period ≤ 1000000 → IsPublicState (powered_on period public)
powered_on_kept public period rules off small = record {
  period = small;
  counting = λ _ some. some;
  uncounted = λ none. refl;
  unpowered = λ e. refl;
  testing = λ e. cc;
  settled = λ _. rules.settled (λ e. cc);
  faultless = λ _. rules.faultless (λ e. cc);
  failed = λ e. cc;
  sequence = rules.sequence;
}

pub tests_requested_kept : (public : PublicState) → IsPublicState public → is_permitted service.RequestTests public.state ≡ true → IsPublicState (tests_requested public)
tests_requested_kept public rules allowed = record {
  period = rules.period;
  counting = λ _ some. some;
  uncounted = λ none. refl;
  unpowered = λ e. cc;
  testing = λ _. (return_for_request_tests public.state allowed, omega arith);
  settled = λ other. absurd (other refl);
  faultless = λ _. rules.faultless (not_failed_for_request_tests public.state allowed);
  failed = λ e. cc;
  sequence = rules.sequence;
}

-- a test was done, and another is due or not
pub test_done_by : (public : PublicState) (more : Bool) → nat_lt public.tests_done 2 ≡ more → IsPublicState public → public.state ≡ state.SelfTest
    → IsPublicState (if more then record public { tests_done = public.tests_done + 1 } else record public { state = public.return_state; return_state = state.Off; tests_done = 0 })
test_done_by public true more rules testing = record {
  period = rules.period;
  counting = rules.counting;
  uncounted = rules.uncounted;
  unpowered = rules.unpowered;
  testing = λ _. ((rules.testing testing).0, grind (arith, nat_tests));
  settled = λ other. absurd (other testing);
  faultless = rules.faultless;
  failed = rules.failed;
  sequence = rules.sequence;
}
test_done_by public false more rules testing = record {
  period = rules.period;
  counting = λ _ some. rules.counting (λ e. cc) some;
  uncounted = rules.uncounted;
  unpowered = λ e. absurd (return_is_powered public.return_state (rules.testing testing).0 e);
  testing = λ e. absurd (return_is_settled public.return_state (rules.testing testing).0 e);
  settled = λ _. (refl, refl);
  faultless = λ _. rules.faultless (λ e. cc);
  failed = λ e. absurd (return_is_faultless public.return_state (rules.testing testing).0 e);
  sequence = rules.sequence;
}

pub test_done_kept : (public : PublicState) → IsPublicState public → public.state ≡ state.SelfTest → IsPublicState (test_done public)
test_done_kept public rules testing = test_done_by public (nat_lt public.tests_done 2) refl rules testing

-- a role's state is one of use
pub role_is_of_use : (role : ℕ) → IsReturn (role_state role)
role_is_of_use role =
    let P : Bool → Type 0 = λ none. IsReturn (if none then state.Approved else if role == 1 then state.Officer else state.User) in
    let Q : Bool → Type 0 = λ first. IsReturn (if first then state.Officer else state.User) in
    let inner : (first : Bool) → Q first = λ first. elim first as Q [ true ↦ tt | false ↦ tt ] in
    let outer : (none : Bool) → P none = λ none. elim none as P [ true ↦ tt | false ↦ inner (role == 1) ] in
    outer (role == 0)

pub role_selected_kept : (public : PublicState) (role : ℕ) → IsPublicState public → IsReturn public.state → IsPublicState (role_selected role public)
role_selected_kept public role rules use' = record {
  period = rules.period;
  counting = λ _ some. rules.counting (return_is_faultless public.state use') some;
  uncounted = rules.uncounted;
  unpowered = λ e. absurd (return_is_powered (role_state role) (role_is_of_use role) e);
  testing = λ e. absurd (return_is_settled (role_state role) (role_is_of_use role) e);
  settled = λ _. rules.settled (return_is_settled public.state use');
  faultless = λ _. rules.faultless (return_is_faultless public.state use');
  failed = λ e. absurd (return_is_faultless (role_state role) (role_is_of_use role) e);
  sequence = rules.sequence;
}

pub was_reset_kept : (public : PublicState) → IsPublicState public → IsPublicState (was_reset public)
was_reset_kept public rules = record {
  period = rules.period;
  counting = λ _ some. some;
  uncounted = λ none. refl;
  unpowered = λ e. refl;
  testing = λ e. cc;
  settled = λ _. (refl, refl);
  faultless = λ _. refl;
  failed = λ e. cc;
  sequence = rules.sequence;
}

pub entry_begun_kept : (public : PublicState) → IsPublicState public → public.state ≡ state.Officer → IsPublicState (entry_begun public)
entry_begun_kept public rules officer = record {
  period = rules.period;
  counting = λ _ some. rules.counting (λ e. cc) some;
  uncounted = rules.uncounted;
  unpowered = λ e. cc;
  testing = λ e. cc;
  settled = λ _. rules.settled (λ e. cc);
  faultless = λ _. rules.faultless (λ e. cc);
  failed = λ e. cc;
  sequence = rules.sequence;
}

pub entry_ended_kept : (public : PublicState) → IsPublicState public → public.state ≡ state.Entry → IsPublicState (entry_ended public)
entry_ended_kept public rules entering = record {
  period = rules.period;
  counting = λ _ some. rules.counting (λ e. cc) some;
  uncounted = rules.uncounted;
  unpowered = λ e. cc;
  testing = λ e. cc;
  settled = λ _. rules.settled (λ e. cc);
  faultless = λ _. rules.faultless (λ e. cc);
  failed = λ e. cc;
  sequence = rules.sequence;
}

-- after a use in a state of use, the period over or not
abbrev pub used_by : PublicState → Bool → PublicState
used_by public over = if over then sent_to_tests (use_counted public) else use_counted public

pub used_kept : (public : PublicState) → IsPublicState public → IsReturn public.state → IsPublicState (used_by public (is_period_over (use_counted public)))
used_kept public rules use' = chosen (public.period == 0) refl (state_number public.state == state_number state.Error) refl (is_period_over (use_counted public)) refl
  where
    chosen : (none : Bool) → (public.period == 0) ≡ none → (failed : Bool) → (state_number public.state == state_number state.Error) ≡ failed
        → (over : Bool) → (nat_lt 0 public.period && ((if none then public.uses_since_tests else public.uses_since_tests + 1) == public.period && not failed)) ≡ over
        → (let counted : PublicState = record public { uses_since_tests = if none then public.uses_since_tests else public.uses_since_tests + 1 } in
        IsPublicState (if over then sent_to_tests counted else counted))
    chosen none h failed k true over = record {
      period = rules.period;
      counting = λ _ some. some;
      uncounted = λ zero. refl;
      unpowered = λ e. cc;
      testing = λ _. (use', omega arith);
      settled = λ other. absurd (other refl);
      faultless = λ _. rules.faultless (return_is_faultless public.state use');
      failed = λ e. cc;
      sequence = rules.sequence;
    }
    chosen true h failed k false over = record {
      period = rules.period;
      counting = rules.counting;
      uncounted = rules.uncounted;
      unpowered = rules.unpowered;
      testing = rules.testing;
      settled = rules.settled;
      faultless = rules.faultless;
      failed = rules.failed;
      sequence = rules.sequence;
    }
    chosen false h true k false over = absurd (failed_use public.state use' k)
      where
        failed_use : (found : State) → IsReturn found → (state_number found == state_number state.Error) ≡ true → ⊥
        failed_use state.Error u e = u
        failed_use _ u e = cc
    chosen false h false k false over = record {
      period = rules.period;
      counting = λ healthy some. let below = rules.counting healthy some in grind (arith, nat_tests, h, over, some, below);
      uncounted = λ zero. absurd (grind (arith, nat_tests, h, zero));
      unpowered = λ off. absurd (return_is_powered public.state use' off);
      testing = rules.testing;
      settled = rules.settled;
      faultless = rules.faultless;
      failed = rules.failed;
      sequence = rules.sequence;
    }

-- where none is counted, none was
none_counted : (period uses : ℕ) → period ≡ 0 → (if period == 0 then uses else uses + 1) ≡ uses
none_counted period uses zero = rw zero refl

-- a failure keeps the rules, in a use as in any other state
pub failed_kept : (public : PublicState) (why : Failure) → IsPublicState public → IsFailure why → IsPublicState (has_failed why public)
failed_kept public why rules is = record {
  period = rules.period;
  counting = λ healthy. absurd (healthy refl);
  uncounted = rules.uncounted;
  unpowered = λ e. cc;
  testing = λ e. cc;
  settled = λ _. (refl, refl);
  faultless = λ healthy. absurd (healthy refl);
  failed = λ _. (why, is, refl);
  sequence = rules.sequence;
}

pub failed_use_kept : (public : PublicState) (why : Failure) → IsPublicState public → IsFailure why → IsPublicState (has_failed why (use_counted public))
failed_use_kept public why rules is = record {
  period = rules.period;
  counting = λ healthy. absurd (healthy refl);
  uncounted = λ zero. none_counted public.period public.uses_since_tests zero ∙ rules.uncounted zero;
  unpowered = λ e. cc;
  testing = λ e. cc;
  settled = λ _. (refl, refl);
  faultless = λ healthy. absurd (healthy refl);
  failed = λ _. (why, is, refl);
  sequence = rules.sequence;
}

-- a period isn't over where something failed
pub failed_is_not_over : (public : PublicState) (why : Failure) → is_period_over (has_failed why public) ≡ false
failed_is_not_over public why = both (nat_lt 0 public.period) (public.uses_since_tests == public.period)
  where
    both : (some all : Bool) → (some && (all && false)) ≡ false
    both true true = refl
    both true false = refl
    both false all = refl

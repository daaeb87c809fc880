use Rattle.std.proofs.Common.{◌≡◌, ◌≢◌, ◌≤◌, ◌<◌, ◌++◌, ℕ, Bool, true, false, List, [], ◌∷◌, Some, None, length, take, refl, ap, ◌∙◌, arith, rules, subst, length-append}
use Rattle.std.specs.Prelude.{nat_le, if◌then◌else◌}
use Rattle.std.proofs.lemmas.Grind.{common_steps}
use Rattle.std.proofs.lemmas.Bool.{le-leb, lt-leb, leb-true, leb-false, eq-eqb}
use Rattle.std.proofs.lemmas.List.{take-append-le, take_all}
use Rattle.noise_health.specs.declared.health.Health.{Health}
use Rattle.noise_health.specs.declared.health.HealthFault.TheVariants.{Repetition, Proportion}
use Rattle.noise_health.specs.Counts.{Counts}
use Rattle.noise_health.specs.Samples.{first_of, last_of, run_at_end, last_window, hits_of}
use Rattle.noise_health.specs.Signals.{adaptive_proportion, health_signal}
use Rattle.noise_health.proofs.Runs.{repetition_by_run}

-- the signal by the number of equal samples at the end
pub signal_by_run : (samples : List ℕ)
    → health_signal samples ≡ (if nat_le 31 (run_at_end samples) then Some Repetition else (if adaptive_proportion samples then Some Proportion else None))
signal_by_run samples =
    ap (λ repeats. if repeats then Some Repetition else (if adaptive_proportion samples then Some Proportion else None)) (repetition_by_run samples)

pub repetition_shows : (samples : List ℕ) → 31 ≤ run_at_end samples → health_signal samples ≡ Some Repetition
repetition_shows samples long =
    let yes = le-leb 31 (run_at_end samples) long in
    signal_by_run samples ∙ ap (λ repeats. if repeats then Some Repetition else (if adaptive_proportion samples then Some Proportion else None)) yes

pub proportion_decides : (samples : List ℕ) → run_at_end samples < 31
    → health_signal samples ≡ (if adaptive_proportion samples then Some Proportion else None)
proportion_decides samples short =
    let no = lt-leb 31 (run_at_end samples) short in
    signal_by_run samples ∙ ap (λ repeats. if repeats then Some Repetition else (if adaptive_proportion samples then Some Proportion else None)) no

pub proportion_shows : (samples : List ℕ) → run_at_end samples < 31 → hits_of (last_window samples) ≡ 325
    → last_of samples ≡ first_of (last_window samples) → health_signal samples ≡ Some Proportion
proportion_shows samples short often again =
    let test : adaptive_proportion samples ≡ true = rw (eq-eqb (hits_of (last_window samples)) 325 often, eq-eqb (last_of samples) (first_of (last_window samples)) again) refl in
    proportion_decides samples short ∙ ap (λ proportion. if proportion then Some Proportion else None) test

nothing_shows : (samples : List ℕ) → run_at_end samples < 31 → adaptive_proportion samples ≡ false → health_signal samples ≡ None
nothing_shows samples short test =
    proportion_decides samples short ∙ ap (λ proportion. if proportion then Some Proportion else None) test

pub nothing_shows_otherwise : (samples : List ℕ) → run_at_end samples < 31 → hits_of (last_window samples) ≢ 325 → health_signal samples ≡ None
nothing_shows_otherwise samples short rarer = nothing_shows samples short (grind (arith, common_steps))

pub nothing_shows_elsewhere : (samples : List ℕ) → run_at_end samples < 31
    → last_of samples ≢ first_of (last_window samples) → health_signal samples ≡ None
nothing_shows_elsewhere samples short other = nothing_shows samples short (grind (arith, common_steps))

-- without a signal fewer than 31 equal samples stand at the end
pub short_run : (samples : List ℕ) → health_signal samples ≡ None → run_at_end samples < 31
short_run samples none = by_test (nat_le 31 (run_at_end samples)) refl
  where
    by_test : (repeats : Bool) → nat_le 31 (run_at_end samples) ≡ repeats → run_at_end samples < 31
    by_test true many = absurd (grind (rules, many, none, signal_by_run samples))
    by_test false fewer = leb-false 31 (run_at_end samples) fewer

-- counters count at most 30 equal samples
pub run_bound : (health : Health) (samples : List ℕ) → Counts health samples → health.run < 31
run_bound health samples counts =
    let all : take (length samples) samples ≡ samples = take_all (length samples) samples (omega arith) in
    let none : health_signal samples ≡ None = subst (λ xs. health_signal xs ≡ None) all (counts.healthy (length samples)) in
    omega (arith, counts.run, short_run samples none)

-- where no prefix showed a fault and the longer list shows none, no prefix of the longer list does
pub healthy_more : (samples : List ℕ) (sample : ℕ) → ((n : ℕ) → health_signal (take n samples) ≡ None)
    → health_signal (samples ++ sample ∷ []) ≡ None → (n : ℕ) → health_signal (take n (samples ++ sample ∷ [])) ≡ None
healthy_more samples sample healthy none n = by_test (nat_le n (length samples)) refl
  where
    by_test : (within : Bool) → nat_le n (length samples) ≡ within → health_signal (take n (samples ++ sample ∷ [])) ≡ None
    by_test true enough = ap health_signal (take-append-le n samples (sample ∷ []) (leb-true n (length samples) enough)) ∙ healthy n
    by_test false past =
        let all = take_all n (samples ++ sample ∷ []) (omega (arith, leb-false n (length samples) past, length-append samples (sample ∷ []))) in
        ap health_signal all ∙ none

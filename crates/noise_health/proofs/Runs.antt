use Rattle.std.proofs.Common.{◌≡◌, ◌+◌, ◌++◌, ℕ, suc, zero, Bool, true, false, ◌&&◌, List, [], ◌∷◌, length, take, reverse, refl, sym, ap, ◌∙◌, arith, cond}
use Rattle.std.specs.Prelude.{nat_le, ◌==◌}
use Rattle.std.specs.List.{list_all, prefix_len}
use Rattle.std.proofs.lemmas.Grind.{common_steps}
use Rattle.std.proofs.lemmas.List.{reverse-append, length-reverse}
use Rattle.std.proofs.Math.Dec.{leb-zero, leb-suc-zero, leb-suc-suc}
use Rattle.noise_health.specs.Samples.{last_of, run_at_end}
use Rattle.noise_health.specs.Signals.{repetition_count}

-- the last of the samples with one more
pub last_more : (samples : List ℕ) (sample : ℕ) → last_of (samples ++ sample ∷ []) ≡ sample
last_more samples sample = rw (reverse-append samples (sample ∷ [])) refl

and_false : (b : Bool) → (b && false) ≡ false
and_false true = refl
and_false false = refl

-- so many pass at the front exactly where there are so many, and the first so many pass
pub all_at_front : (p : ℕ → Bool) (n : ℕ) (xs : List ℕ) → (nat_le n (length xs) && list_all p (take n xs)) ≡ nat_le n (prefix_len p xs)
all_at_front p zero xs = rw (leb-zero (length xs), leb-zero (prefix_len p xs)) refl
all_at_front p (suc n) [] = rw (leb-suc-zero n) refl
all_at_front p (suc n) (x ∷ xs) =
    elim (p x) as (λ b. (nat_le (suc n) (suc (length xs)) && (b && list_all p (take n xs))) ≡ nat_le (suc n) (cond b (1 + prefix_len p xs) 0)) [
      | true ↦ (let next : 1 + prefix_len p xs ≡ suc (prefix_len p xs) = omega arith in
          rw (next, leb-suc-suc n (length xs), leb-suc-suc n (prefix_len p xs)) (all_at_front p n xs))
      | false ↦ (rw (leb-suc-zero n) (and_false _))
    ]

one_more : (sample : ℕ) (xs : List ℕ) → prefix_len (λ each. each == sample) (sample ∷ xs) ≡ prefix_len (λ each. each == sample) xs + 1
one_more sample xs = grind (arith, common_steps)

-- one more of the last sample
pub run_more : (samples : List ℕ) (sample : ℕ) → sample ≡ last_of samples → run_at_end (samples ++ sample ∷ []) ≡ run_at_end samples + 1
run_more samples sample same =
    rw (reverse-append samples (sample ∷ []))
    (one_more sample (reverse samples) ∙ ap (λ last. prefix_len (λ each. each == last) (reverse samples) + 1) same)

pub repetition_by_run : (samples : List ℕ) → repetition_count samples ≡ nat_le 31 (run_at_end samples)
repetition_by_run samples =
    rw (sym (length-reverse samples)) (all_at_front (λ sample. sample == last_of samples) 31 (reverse samples))

-- Bytes that a loop takes from blocks of 32, by their places.
use Rattle.hmac_core.specs.Blocks.{joined}
use Rattle.std.proofs.Common.{◌≡◌, ℕ, zero, suc, ◌+◌, ◌-◌, ◌*◌, ◌/◌, ◌%◌, ◌<◌, List, length, take, get_or, refl, sym, ap, ◌∙◌, arith, inl, inr, slice_set}
use Rattle.std.proofs.lemmas.List.{get_or-take, get_or-set_same, get_or-set_other, get_or_append_left, length-take, length-append}
use Rattle.std.proofs.Math.Seq.{get_or-append_right}
use Rattle.std.proofs.lemmas.Bool.{cases_lt, cases_eq}
use Rattle.std.proofs.lemmas.Grind.{same_number_lists}

-- each block from the first on has 32 bytes
pub record IsInBlocksOf32 (block : ℕ → List ℕ) : Type 0 where
  pub size : (n : ℕ) → length (block (suc n)) ≡ 32

pub length-joined : (block : ℕ → List ℕ) → IsInBlocksOf32 block → (n : ℕ) → length (joined block n) ≡ 32 * n
unfolding joined
length-joined block each zero = refl
length-joined block each (suc n) = length-append (joined block n) (block (suc n)) ∙ omega (arith, length-joined block each n, each.size n)

pub joined_at : (block : ℕ → List ℕ) → IsInBlocksOf32 block → (n m : ℕ) → m < 32 * n → get_or (joined block n) m 0 ≡ get_or (block (m / 32 + 1)) (m % 32) 0
unfolding joined
joined_at block each zero m h = absurd (omega arith)
joined_at block each (suc n) m h = elim (cases_lt m (32 * n)) [
  | inl below ↦ get_or_append_left (joined block n) (block (suc n)) 0 m (omega (arith, length-joined block each n)) ∙ joined_at block each n m below
  | inr above ↦
      let place : m - length (joined block n) ≡ m % 32 = omega (arith, length-joined block each n) in
      let which : suc n ≡ m / 32 + 1 = omega arith in
      get_or-append_right (joined block n) (block (suc n)) m 0 (omega (arith, length-joined block each n))
      ∙ ap (λ (j : ℕ). get_or (block (suc n)) j 0) place
      ∙ ap (λ (j : ℕ). get_or (block j) (m % 32) 0) which
]

-- a list of n bytes, each the byte at its place in its block, is the leftmost part of the blocks joined
pub filled : (block : ℕ → List ℕ) → IsInBlocksOf32 block → (out : List ℕ) (n : ℕ) → n ≡ length out
    → ((m : ℕ) → m < n → get_or out m 0 ≡ get_or (block (m / 32 + 1)) (m % 32) 0) → out ≡ take n (joined block ((n + 31) / 32))
filled block each out n e at =
    let all = joined block ((n + 31) / 32) in
    same_number_lists out (take n all) (sym (length-take n all ∙ omega (arith, length-joined block each ((n + 31) / 32)))) (λ m h.
    at m (omega arith) ∙ sym (get_or-take n all m 0 (omega arith) ∙ joined_at block each ((n + 31) / 32) m (omega arith)))

-- one byte more
pub byte_more : (out : List ℕ) (f : ℕ → ℕ) (i b : ℕ) → i < length out → b ≡ f i → ((m : ℕ) → m < i → get_or out m 0 ≡ f m) → (m : ℕ) → m < i + 1 → get_or (slice_set out i b) m 0 ≡ f m
byte_more out f i b long e old m h = elim (cases_eq m i) [
  | inl same ↦ ap (λ (j : ℕ). get_or (slice_set out i b) j 0) same ∙ get_or-set_same out i b 0 long ∙ e ∙ ap f (sym same)
  | inr other ↦ get_or-set_other out i m b 0 other ∙ old m (omega (arith, other))
]

-- Which slots are in a set that gained some.
use Rattle.std.proofs.Common.{◌≡◌, ◌≢◌, ℕ, ◌^◌, ◌<◌, ◌==◌, ◌||◌, Bool, false, bit_or, max, length, sym, ap, ◌∙◌, arith, inl, inr, eq-eqb}
use Rattle.std.proofs.lemmas.Bool.{cases_eq}
use Rattle.std.proofs.lemmas.List.{get_or-set_same}
use Rattle.std.proofs.Math.Bool.{or_assoc}
use Rattle.std.proofs.lemmas.Nat.Bits.{bit_at_or, bit_at-lt, bit_at-pow_same, bit_at-pow_other}
use Rattle.std.specs.Int.{bit_at}
use Rattle.ssp_slots.specs.Slots.{Contents, row_in}
use Rattle.ssp_slots.specs.Ancestry.{holds, set_with, linked_in}

-- of two bits, the greater is one where either is
either : (a b : ℕ) → a < 2 → b < 2 → (max a b == 1) ≡ (a == 1 || b == 1)
either a b small small_too = grind arith

-- the members of two sets
pub holds-or : (a b id : ℕ) → holds (bit_or a b) id ≡ (holds a id || holds b id)
holds-or a b id =
    ap (λ (bit : ℕ). bit == 1) (bit_at_or a b id) ∙ either (bit_at a id) (bit_at b id) (bit_at-lt a id) (bit_at-lt b id)

differ : (a b : ℕ) → a ≢ b → (a == b) ≡ false
differ a b apart = grind arith

-- a set of one slot
pub holds-alone : (id other : ℕ) → holds (2 ^ id) other ≡ (other == id)
holds-alone id other = elim (cases_eq other id) [
  | inl same ↦ ap (λ (bit : ℕ). bit == 1) (ap (bit_at (2 ^ id)) same ∙ bit_at-pow_same id) ∙ sym (eq-eqb other id same)
  | inr apart ↦ ap (λ (bit : ℕ). bit == 1) (bit_at-pow_other id other apart) ∙ sym (differ other id apart)
]

pub holds-set_with : (set id others other : ℕ) → holds (set_with set id others) other ≡ (holds set other || (other == id || holds others other))
holds-set_with set id others other =
    let members : Bool = holds others other in
    holds-or (bit_or set (2 ^ id)) others other
    ∙ ap (λ (b : Bool). b || members) (holds-or set (2 ^ id) other ∙ ap (λ (b : Bool). holds set other || b) (holds-alone id other))
    ∙ or_assoc (holds set other) (other == id) members

-- the target's row after it gained the source and the source's row
pub holds-linked : (vault : Contents) (source target id : ℕ) → target < length vault.rows
    → holds (row_in (linked_in vault source target) target) id ≡ (holds (row_in vault target) id || (id == source || holds (row_in vault source) id))
holds-linked vault source target id within =
    ap (λ (set : ℕ). holds set id) (get_or-set_same vault.rows target (set_with (row_in vault target) source (row_in vault source)) 0 within)
    ∙ holds-set_with (row_in vault target) source (row_in vault source) id

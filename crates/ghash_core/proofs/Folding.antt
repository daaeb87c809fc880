-- What comes back of the bytes past the sixteenth.
use Rattle.ghash_core.specs.Number.{shift_by, shift_by_x, r_number}
use Rattle.ghash_core.proofs.Groups.{shift_by-multiple}
use Rattle.ghash_core.specs.ByBytes.{by_bytes, first_byte, polynomial, reduced}
use Rattle.ghash_core.specs.Places.{value_at}
use Rattle.ghash_core.specs.declared.fold.TheConstants.{FOLD, SPILL}
use Rattle.ghash_core.proofs.ByteSums.{AreBytes, shift_by-add, shift_by-zero, by_bytes-map, by_bytes-step, by_bytes-shift, polynomial-xor, polynomial-up}
use Rattle.std.proofs.Common.{◌≡◌, ℕ, zero, suc, ◌+◌, ◌<◌, ◌≤◌, List, [], ◌∷◌, map, length, take, get_or, refl, sym, ap, ◌∙◌, arith, inl, inr}
use Rattle.std.specs.List.{range_with_len}
use Rattle.std.specs.Int.Bits.{bit_xor, xor_assoc, xor_comm, xor_zero_r}
use Rattle.std.proofs.lemmas.Bool.{cases_lt}
use Rattle.std.proofs.lemmas.List.{get_or-map, length-map, length-take, get_or-take, get_or_past}
use Rattle.std.proofs.lemmas.List.FromFn.{get_or-map-range_with_len}
use Rattle.std.proofs.lemmas.Simd.{length-zip2}
use lib.Lanes.{zip2}

pub on_bytes : (f g : ℕ → ℕ) → map f (range_with_len 0 256) ≡ map g (range_with_len 0 256) → (b : ℕ) → b < 256 → f b ≡ g b
on_bytes f g e b h = sym (get_or-map-range_with_len f 0 256 b b 0 h (omega arith))
    ∙ ap (λ (t : List ℕ). get_or t b 0) e ∙ get_or-map-range_with_len g 0 256 b b 0 h (omega arith)

-- a byte times x^8, as its two look-ups
abbrev two_bytes : ℕ → ℕ
two_bytes b = bit_xor (shift_by 8 (first_byte (value_at SPILL b))) (first_byte (value_at FOLD b))

two_tables : map (shift_by 8) (range_with_len 0 256) ≡ map two_bytes (range_with_len 0 256)
unfolding shift_by shift_by_x r_number
two_tables = refl

byte_past : (b : ℕ) → b < 256 → shift_by 128 (first_byte b) ≡ two_bytes b
byte_past b h = sym (shift_by-add 8 120 (first_byte b)) ∙ ap (shift_by 8) (shift_by-multiple 120 b) ∙ on_bytes (shift_by 8) two_bytes two_tables b h

pub folds : (x over : List ℕ) → length x ≡ 16 → length over ≡ 16 → AreBytes over → get_or over 15 0 ≡ 0 →
    polynomial (zip2 bit_xor (zip2 bit_xor x (map (value_at FOLD) over)) (0 ∷ take 15 (map (value_at SPILL) over))) ≡ reduced x over
unfolding reduced polynomial
folds x over l m h z =
    let f = map (value_at FOLD) over in
    let s = map (value_at SPILL) over in
    let lf : length f ≡ 16 = length-map over (value_at FOLD) ∙ m in
    let ls : length s ≡ 16 = length-map over (value_at SPILL) ∙ m in
    let both : length (zip2 bit_xor x f) ≡ 16 = length-zip2 bit_xor x f (l ∙ sym lf) ∙ l in
    let up : length (0 ∷ take 15 s) ≡ 16 = omega (arith, length-take 15 s) in
    let last : get_or s 15 0 ≡ 0 = get_or-map (value_at SPILL) over 15 0 0 (omega arith) ∙ ap (value_at SPILL) z in
    let moved : polynomial (0 ∷ take 15 s) ≡ shift_by 8 (polynomial s) =
    sym (polynomial-up s ls ∙ ap (λ (b : ℕ). bit_xor (polynomial (0 ∷ take 15 s)) (shift_by 8 b)) last
    ∙ ap (bit_xor (polynomial (0 ∷ take 15 s))) (shift_by-zero 8) ∙ xor_zero_r (polynomial (0 ∷ take 15 s))) in
    polynomial-xor (zip2 bit_xor x f) (0 ∷ take 15 s) (both ∙ sym up)
    ∙ ap (λ (y : ℕ). bit_xor y (polynomial (0 ∷ take 15 s))) (polynomial-xor x f (l ∙ sym lf))
    ∙ ap (bit_xor (bit_xor (polynomial x) (polynomial f))) moved
    ∙ xor_assoc (polynomial x) (polynomial f) (shift_by 8 (polynomial s))
    ∙ ap (bit_xor (polynomial x)) (xor_comm (polynomial f) (shift_by 8 (polynomial s))
    ∙ ap (λ (y : ℕ). bit_xor (shift_by 8 (polynomial s)) y) (by_bytes-map first_byte (value_at FOLD) over)
    ∙ ap (λ (y : ℕ). bit_xor (shift_by 8 y) (by_bytes (λ b. first_byte (value_at FOLD b)) over)) (by_bytes-map first_byte (value_at SPILL) over)
    ∙ sym (by_bytes-shift 128 first_byte over
    ∙ by_bytes-step (λ b. first_byte (value_at SPILL b)) (λ b. shift_by 128 (first_byte b)) (λ b. first_byte (value_at FOLD b)) byte_past over h))

-- ---- how many bytes have gone past the sixteenth
pub still_zero : (s step : ℕ) (over : List ℕ) → ((i : ℕ) → step ≤ i → get_or over i 0 ≡ 0) → (i : ℕ) → step + 1 ≤ i → get_or (s ∷ take 15 over) i 0 ≡ 0
still_zero s step over z zero h = absurd (omega arith)
still_zero s step over z (suc i) h = elim (cases_lt i 15) [
  | inl below ↦ get_or-take 15 over i 0 below ∙ z i (omega arith)
  | inr past ↦ get_or_past (take 15 over) i 0 (omega (arith, length-take 15 over))
]

-- nothing has gone past it at first
zero_block : polynomial (0 ∷ 0 ∷ 0 ∷ 0 ∷ 0 ∷ 0 ∷ 0 ∷ 0 ∷ 0 ∷ 0 ∷ 0 ∷ 0 ∷ 0 ∷ 0 ∷ 0 ∷ 0 ∷ []) ≡ 0
unfolding polynomial by_bytes shift_by shift_by_x
zero_block = refl

pub none_over : (x : List ℕ) → reduced x (0 ∷ 0 ∷ 0 ∷ 0 ∷ 0 ∷ 0 ∷ 0 ∷ 0 ∷ 0 ∷ 0 ∷ 0 ∷ 0 ∷ 0 ∷ 0 ∷ 0 ∷ 0 ∷ []) ≡ polynomial x
unfolding reduced
none_over x = ap (λ (y : ℕ). bit_xor (polynomial x) (shift_by 128 y)) zero_block ∙ ap (bit_xor (polynomial x)) (shift_by-zero 128) ∙ xor_zero_r (polynomial x)

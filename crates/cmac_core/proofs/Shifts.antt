-- A block that was shifted byte by byte, and then got the reduction in its last byte.
use Rattle.bits_core.specs.ByteList.{zeros}
use Rattle.bits_core.proofs.XorBytes.{is_xor_bytes}
use Rattle.bits_core.proofs.ZeroPadding.{get_or-zeros, length-zeros}
use Rattle.cmac_core.specs.Cmac.{doubled, reduction, shifted}
use Rattle.std.specs.Int.Bits.{xor_zero_r}
use Rattle.std.proofs.Common.{◌≡◌, ℕ, ◌+◌, ◌*◌, ◌/◌, ◌%◌, ◌<◌, List, [], ◌∷◌, length, get_or, bit_xor, slice_set, refl, sym, ap, ◌∙◌, arith, inl, inr}
use Rattle.std.proofs.lemmas.List.{get_or_append_left, get_or_past, length-set, get_or-set_same, get_or-set_other}
use Rattle.std.proofs.lemmas.List.FromFn.{get_or-map-range_with_len}
use Rattle.std.proofs.lemmas.Bool.{cases_eq}

-- a place of the shifted block
pub get_or-shifted : (block : List ℕ) (k : ℕ) → k < 16 → get_or (shifted block) k 0 ≡ get_or block k 0 * 2 % 256 + get_or block (k + 1) 0 / 128
get_or-shifted block k h = get_or-map-range_with_len (λ (i : ℕ). get_or block i 0 * 2 % 256 + get_or block (i + 1) 0 / 128) 0 16 k k 0 h (omega arith)

pub is_doubled : (new old : List ℕ) → length new ≡ 16 → length old ≡ 16
    → ((k : ℕ) → k < 15 → get_or new k 0 ≡ get_or old k 0 * 2 % 256 + get_or old (k + 1) 0 / 128)
    → get_or new 15 0 ≡ get_or old 15 0
    → slice_set new 15 (bit_xor (get_or new 15 0 * 2 % 256) (get_or old 0 0 / 128 * 0x87)) ≡ doubled old
unfolding doubled
is_doubled new old long was so_far last =
    let added : ℕ = get_or old 0 0 / 128 * 0x87 in
    let value : ℕ = bit_xor (get_or new 15 0 * 2 % 256) added in
    let end : get_or new 15 0 * 2 % 256 ≡ get_or (shifted old) 15 0 = omega (arith, get_or-shifted old 15 (omega arith), get_or_past old 16 0 (omega arith)) in
    is_xor_bytes (slice_set new 15 value) (shifted old) (reduction old) (length-set new 15 value ∙ long) refl (λ k h.
    elim (cases_eq k 15) [
      | inl same ↦
          ap (λ (j : ℕ). get_or (slice_set new 15 value) j 0) same
          ∙ get_or-set_same new 15 value 0 (omega arith)
          ∙ ap (λ (x : ℕ). bit_xor x added) end
          ∙ ap (λ (j : ℕ). bit_xor (get_or (shifted old) j 0) (get_or (reduction old) j 0)) (sym same)
      | inr other ↦
          let none : get_or (reduction old) k 0 ≡ 0 = get_or_append_left (zeros 15) (added ∷ []) 0 k (omega (arith, length-zeros 15)) ∙ get_or-zeros 15 k in
          get_or-set_other new 15 k value 0 other
          ∙ so_far k (omega arith)
          ∙ sym (get_or-shifted old k (omega arith))
          ∙ sym (xor_zero_r (get_or (shifted old) k 0))
          ∙ ap (bit_xor (get_or (shifted old) k 0)) (sym none)
    ])

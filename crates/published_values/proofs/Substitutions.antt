-- The substitution of every byte, computed once.
use Rattle.std.proofs.Common.{◌≡◌, ℕ, zero, suc, ◌/◌, ◌<◌, List, map, get_or, refl, sym, ap, ◌∙◌, arith}
use Rattle.std.specs.List.{range_with_len}
use Rattle.std.proofs.lemmas.List.FromFn.{get_or-map-range_with_len}
use Rattle.aes_spec.specs.Field.{product, remainder, times, first_from, inverse, affine_bit, byte_of, affine, sub_byte, inv_affine_bit, inv_affine, inv_sub_byte}
use Rattle.published_values.specs.Bytes.{bytes}
use Rattle.published_values.specs.Tables.{sbox, inverse_sbox}

pub forward : map sub_byte (range_with_len 0 256) ≡ sbox
unfolding product remainder times first_from inverse affine_bit byte_of affine sub_byte bytes sbox
forward = refl

pub backward : map inv_sub_byte (range_with_len 0 256) ≡ inverse_sbox
unfolding product remainder times first_from inverse affine_bit byte_of affine sub_byte inv_affine_bit inv_affine inv_sub_byte bytes inverse_sbox
backward = refl

pub in_table : (b : ℕ) → b < 256 → get_or sbox b 0 ≡ sub_byte b
in_table b small = ap (λ (t : List ℕ). get_or t b 0) (sym forward) ∙ get_or-map-range_with_len sub_byte 0 256 b b 0 small (omega arith)

-- the substitution, looked up where the number is a byte
unfoldable pub looked_up : ℕ → ℕ
looked_up b = elim (b / 256) as (λ q. ℕ) [ zero ↦ get_or sbox b 0 | suc q ↦ sub_byte b ]

by_quotient : (b q : ℕ) → b / 256 ≡ q → elim q as (λ q. ℕ) [ zero ↦ get_or sbox b 0 | suc q ↦ sub_byte b ] ≡ sub_byte b
by_quotient b zero e = in_table b (omega (arith, e))
by_quotient b (suc q) e = refl

pub looked_up-is : (b : ℕ) → looked_up b ≡ sub_byte b
unfolding looked_up
looked_up-is b = by_quotient b (b / 256) refl

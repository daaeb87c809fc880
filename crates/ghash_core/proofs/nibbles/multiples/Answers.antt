use Rattle.std.proofs.Common.{◌≡◌, ℕ, zero, suc, List, [], ◌∷◌, bit_xor, refl, sym, ap, arith, subst, ◌∙◌}
use Rattle.std.specs.Int.Bits.{xor_zero_r}
use Rattle.ghash_core.specs.Number.{digits, digits_product, shift_by_x, AreMultiples}
use Rattle.ghash_core.proofs.nibbles.multiples.Goals as goal

two : (a b : ℕ) → bit_xor a b ≡ bit_xor a (bit_xor b 0)
two a b = ap (bit_xor a) (sym (xor_zero_r b))

three : (a b c : ℕ) → bit_xor a (bit_xor b c) ≡ bit_xor a (bit_xor b (bit_xor c 0))
three a b c = ap (bit_xor a) (two b c)

four : (a b c d : ℕ) → bit_xor a (bit_xor b (bit_xor c d)) ≡ bit_xor a (bit_xor b (bit_xor c (bit_xor d 0)))
four a b c d = ap (bit_xor a) (three b c d)

abbrev listed : ℕ → ℕ → ℕ → ℕ → List ℕ
listed h8 h4 h2 h1 = (0 ∷ h1 ∷ h2 ∷ bit_xor h2 h1 ∷ h4 ∷ bit_xor h4 h1 ∷ bit_xor h4 h2 ∷ bit_xor h4 (bit_xor h2 h1) ∷ h8 ∷ bit_xor h8 h1 ∷ bit_xor h8 h2 ∷ bit_xor h8 (bit_xor h2 h1) ∷ bit_xor h8 h4 ∷ bit_xor h8 (bit_xor h4 h1) ∷ bit_xor h8 (bit_xor h4 h2) ∷ bit_xor h8 (bit_xor h4 (bit_xor h2 h1)) ∷ [])

are_multiples : (h8 : ℕ) → AreMultiples (listed h8 (shift_by_x h8) (shift_by_x (shift_by_x h8)) (shift_by_x (shift_by_x (shift_by_x h8)))) h8
unfolding digits_product digits
are_multiples h8 zero k = refl
are_multiples h8 (suc zero) k = sym (xor_zero_r (shift_by_x (shift_by_x (shift_by_x h8))))
are_multiples h8 (suc (suc zero)) k = sym (xor_zero_r (shift_by_x (shift_by_x h8)))
are_multiples h8 (suc (suc (suc zero))) k = two (shift_by_x (shift_by_x h8)) (shift_by_x (shift_by_x (shift_by_x h8)))
are_multiples h8 (suc (suc (suc (suc zero)))) k = sym (xor_zero_r (shift_by_x h8))
are_multiples h8 (suc (suc (suc (suc (suc zero))))) k = two (shift_by_x h8) (shift_by_x (shift_by_x (shift_by_x h8)))
are_multiples h8 (suc (suc (suc (suc (suc (suc zero)))))) k = two (shift_by_x h8) (shift_by_x (shift_by_x h8))
are_multiples h8 (suc (suc (suc (suc (suc (suc (suc zero))))))) k = three (shift_by_x h8) (shift_by_x (shift_by_x h8)) (shift_by_x (shift_by_x (shift_by_x h8)))
are_multiples h8 (suc (suc (suc (suc (suc (suc (suc (suc zero)))))))) k = sym (xor_zero_r (h8))
are_multiples h8 (suc (suc (suc (suc (suc (suc (suc (suc (suc zero))))))))) k = two (h8) (shift_by_x (shift_by_x (shift_by_x h8)))
are_multiples h8 (suc (suc (suc (suc (suc (suc (suc (suc (suc (suc zero)))))))))) k = two (h8) (shift_by_x (shift_by_x h8))
are_multiples h8 (suc (suc (suc (suc (suc (suc (suc (suc (suc (suc (suc zero))))))))))) k = three (h8) (shift_by_x (shift_by_x h8)) (shift_by_x (shift_by_x (shift_by_x h8)))
are_multiples h8 (suc (suc (suc (suc (suc (suc (suc (suc (suc (suc (suc (suc zero)))))))))))) k = two (h8) (shift_by_x h8)
are_multiples h8 (suc (suc (suc (suc (suc (suc (suc (suc (suc (suc (suc (suc (suc zero))))))))))))) k = three (h8) (shift_by_x h8) (shift_by_x (shift_by_x (shift_by_x h8)))
are_multiples h8 (suc (suc (suc (suc (suc (suc (suc (suc (suc (suc (suc (suc (suc (suc zero)))))))))))))) k = three (h8) (shift_by_x h8) (shift_by_x (shift_by_x h8))
are_multiples h8 (suc (suc (suc (suc (suc (suc (suc (suc (suc (suc (suc (suc (suc (suc (suc zero))))))))))))))) k = four (h8) (shift_by_x h8) (shift_by_x (shift_by_x h8)) (shift_by_x (shift_by_x (shift_by_x h8)))
are_multiples h8 (suc (suc (suc (suc (suc (suc (suc (suc (suc (suc (suc (suc (suc (suc (suc (suc n)))))))))))))))) k = absurd (omega arith)

pub returns : goal.returns
returns c =
    let h8 = c.args.h in
    subst (λ (x : ℕ). AreMultiples (listed h8 x c.by_x-h2.result c.by_x-h1.result) h8) (sym c.by_x-h4.ensures)
    (subst (λ (x : ℕ). AreMultiples (listed h8 (shift_by_x h8) x c.by_x-h1.result) h8) (sym (c.by_x-h2.ensures ∙ ap shift_by_x c.by_x-h4.ensures))
    (subst (λ (x : ℕ). AreMultiples (listed h8 (shift_by_x h8) (shift_by_x (shift_by_x h8)) x) h8) (sym (c.by_x-h1.ensures ∙ ap shift_by_x (c.by_x-h2.ensures ∙ ap shift_by_x c.by_x-h4.ensures)))
    (are_multiples h8)))

-- The padded blocks and the choice of the subkey determine the text.
use Rattle.bits_core.specs.ByteList.{zeros, zero_padded}
use Rattle.cmac_core.specs.Cmac.{blocks_before, is_whole, last_block, padded_block, text_block}
use Rattle.cmac_core.proofs.BlockSums.{get_or-zero_padded}
use Rattle.cmac_core.proofs.Closing.{padded_short, padded_whole}
use Rattle.std.proofs.Common.{◌≡◌, ℕ, zero, suc, ◌+◌, ◌*◌, ◌<◌, Bool, true, false, List, [], ◌∷◌, ◌++◌, length, take, get_or, refl, sym, ap, ap₂, ◌∙◌, arith, inl, inr}
use Rattle.std.proofs.lemmas.List.{append_assoc, get_or_past, get_or_push, length_push, take_at, take-append-drop}
use Rattle.std.proofs.lemmas.Bool.{cases_lt}
use Rattle.std.proofs.Math.Seq.{take-add}

-- the bit after the shorter of two texts is one in its padding alone
no_shorter : (x y : List ℕ) → length x < length y → zero_padded 16 (x ++ 0x80 ∷ []) ≡ zero_padded 16 (y ++ 0x80 ∷ []) → ⊥
no_shorter x y below same =
    let left : get_or (zero_padded 16 (x ++ 0x80 ∷ [])) (length y) 0 ≡ 0 = get_or-zero_padded 16 (x ++ 0x80 ∷ []) (length y) ∙ get_or_past (x ++ 0x80 ∷ []) (length y) 0 (omega (arith, length_push x 0x80)) in
    let right : get_or (zero_padded 16 (y ++ 0x80 ∷ [])) (length y) 0 ≡ 0x80 = get_or-zero_padded 16 (y ++ 0x80 ∷ []) (length y) ∙ get_or_push y 0x80 0 (length y) refl in
    let both : get_or (zero_padded 16 (x ++ 0x80 ∷ [])) (length y) 0 ≡ get_or (zero_padded 16 (y ++ 0x80 ∷ [])) (length y) 0 = ap (λ (l : List ℕ). get_or l (length y) 0) same in
    omega arith

-- the bytes before the bit
front : (x : List ℕ) (n : ℕ) → length x ≡ n → take n (zero_padded 16 (x ++ 0x80 ∷ [])) ≡ x
front x n long = ap (take n) (append_assoc x (0x80 ∷ []) (zeros _)) ∙ take_at x (0x80 ∷ [] ++ zeros _) n long

-- what is padded can be told from the padded block
unpadded : (x y : List ℕ) → zero_padded 16 (x ++ 0x80 ∷ []) ≡ zero_padded 16 (y ++ 0x80 ∷ []) → x ≡ y
unpadded x y same = elim (cases_lt (length x) (length y)) [
  | inl below ↦ absurd (no_shorter x y below same)
  | inr above ↦ elim (cases_lt (length y) (length x)) [
    | inl less ↦ absurd (no_shorter y x less (sym same))
    | inr more ↦ sym (front x (length x) refl) ∙ ap (take (length x)) same ∙ front y (length x) (omega arith)
  ]
]

last_same : (a b : List ℕ) (v : Bool) → is_whole a ≡ v → is_whole b ≡ v → padded_block a ≡ padded_block b → last_block a ≡ last_block b
last_same a b true whole_a whole_b same = sym (padded_whole a whole_a) ∙ same ∙ padded_whole b whole_b
last_same a b false short_a short_b same = unpadded (last_block a) (last_block b) (sym (padded_short a short_a) ∙ same ∙ padded_short b short_b)

blocks_same : (a b : List ℕ) (n : ℕ) → ((i : ℕ) → i < n → text_block a i ≡ text_block b i) → take (16 * n) a ≡ take (16 * n) b
blocks_same a b zero same = refl
blocks_same a b (suc n) same =
    let step : 16 * suc n ≡ 16 * n + 16 = omega arith in
    ap (λ (m : ℕ). take m a) step ∙ take-add (16 * n) 16 a
    ∙ ap₂ (λ (x y : List ℕ). x ++ y) (blocks_same a b n (λ i h. same i (omega arith))) (same n (omega arith))
    ∙ sym (take-add (16 * n) 16 b) ∙ ap (λ (m : ℕ). take m b) (sym step)

pub padding_determines : (a b : List ℕ) → blocks_before a ≡ blocks_before b
    → ((i : ℕ) → i < blocks_before a → text_block a i ≡ text_block b i)
    → padded_block a ≡ padded_block b → is_whole a ≡ is_whole b → a ≡ b
padding_determines a b count blocks padded choice =
    sym (take-append-drop (16 * blocks_before a) a)
    ∙ ap₂ (λ (x y : List ℕ). x ++ y) (blocks_same a b (blocks_before a) blocks ∙ ap (λ (n : ℕ). take (16 * n) b) count) (last_same a b (is_whole b) choice refl padded)
    ∙ take-append-drop (16 * blocks_before b) b

-- Sums of blocks: a byte more in a block, and sums of three.
use Rattle.bits_core.specs.ByteList.{zeros, zero_padded, xor_bytes}
use Rattle.bits_core.proofs.ZeroPadding.{get_or-zeros, length-zero_padded}
use Rattle.bits_core.proofs.XorBytes.{length-xor_bytes, get_or-xor_bytes, is_xor_bytes}
use Rattle.std.specs.Int.Bits.{xor_zero_r, xor_assoc}
use Rattle.std.proofs.Common.{◌≡◌, ℕ, zero, suc, ◌-◌, ◌<◌, ◌≤◌, ◌≢◌, List, [], ◌∷◌, ◌++◌, length, get_or, bit_xor, slice_set, refl, sym, ap, ap₂, ◌∙◌, arith, inl, inr}
use Rattle.std.proofs.lemmas.List.{get_or_append_left, get_or_past, get_or_push, length_push, length-set, get_or-set_same, get_or-set_other, append-nil}
use Rattle.std.proofs.Math.Seq.{get_or-append_right}
use Rattle.std.proofs.lemmas.Bool.{cases_lt, cases_eq}

-- the places of a padded list are those of the list
pub get_or-zero_padded : (n : ℕ) (bytes : List ℕ) (k : ℕ) → get_or (zero_padded n bytes) k 0 ≡ get_or bytes k 0
get_or-zero_padded n bytes k =
    let tail : List ℕ = zeros (n - length bytes) in
    elim (cases_lt k (length bytes)) [
      | inl below ↦ get_or_append_left bytes tail 0 k below
      | inr above ↦ get_or-append_right bytes tail k 0 above ∙ get_or-zeros (n - length bytes) (k - length bytes) ∙ sym (get_or_past bytes k 0 above)
    ]

-- a list as long as it is padded to
pub zero_padded-whole : (n : ℕ) (bytes : List ℕ) → length bytes ≡ n → zero_padded n bytes ≡ bytes
zero_padded-whole n bytes long = ap (λ (m : ℕ). bytes ++ zeros m) (let e : n - length bytes ≡ 0 = omega arith in e) ∙ append-nil bytes

-- one byte more is added at the end of the bytes so far
pub xor_push : (c last : List ℕ) (b : ℕ) → length c ≡ 16 → length last < 16
    → slice_set (xor_bytes c (zero_padded 16 last)) (length last) (bit_xor (get_or (xor_bytes c (zero_padded 16 last)) (length last) 0) b)
    ≡ xor_bytes c (zero_padded 16 (last ++ b ∷ []))
xor_push c last b long fits =
    let n : ℕ = length last in
    let more : List ℕ = last ++ b ∷ [] in
    let sum : List ℕ = xor_bytes c (zero_padded 16 last) in
    let value : ℕ = bit_xor (get_or sum n 0) b in
    let alike : length (zero_padded 16 last) ≡ length c = length-zero_padded 16 last (omega arith) ∙ sym long in
    let size : length sum ≡ 16 = length-xor_bytes c (zero_padded 16 last) alike ∙ long in
    let fits_more : length more ≤ 16 = omega (arith, length_push last b) in
    let was : (k : ℕ) → get_or sum k 0 ≡ bit_xor (get_or c k 0) (get_or last k 0) = λ k.
    get_or-xor_bytes c (zero_padded 16 last) k alike ∙ ap (bit_xor (get_or c k 0)) (get_or-zero_padded 16 last k) in
    let rest : (k : ℕ) → k ≢ n → get_or last k 0 ≡ get_or more k 0 = λ k other. elim (cases_lt k n) [
      | inl below ↦ sym (get_or_append_left last (b ∷ []) 0 k below)
      | inr above ↦ get_or_past last k 0 above ∙ sym (get_or_past more k 0 (omega (arith, length_push last b)))
    ] in
    is_xor_bytes (slice_set sum n value) c (zero_padded 16 more) (length-set sum n value ∙ size ∙ sym long) (length-zero_padded 16 more fits_more ∙ sym long) (λ k h.
    let goal : get_or (slice_set sum n value) k 0 ≡ bit_xor (get_or c k 0) (get_or more k 0) = elim (cases_eq k n) [
      | inl same ↦
          ap (λ (j : ℕ). get_or (slice_set sum n value) j 0) same
          ∙ get_or-set_same sum n value 0 (omega arith)
          ∙ ap (λ (x : ℕ). bit_xor x b) (was n ∙ ap (bit_xor (get_or c n 0)) (get_or_past last n 0 (omega arith)) ∙ xor_zero_r (get_or c n 0))
          ∙ ap (bit_xor (get_or c n 0)) (sym (get_or_push last b 0 n refl))
          ∙ ap (λ (j : ℕ). bit_xor (get_or c j 0) (get_or more j 0)) (sym same)
      | inr other ↦ get_or-set_other sum n k value 0 other ∙ was k ∙ ap (bit_xor (get_or c k 0)) (rest k other)
    ] in
    goal ∙ ap (bit_xor (get_or c k 0)) (sym (get_or-zero_padded 16 more k)))

-- the sum of three lists of the same length
pub xor_bytes-assoc : (xs ys zs : List ℕ) → xor_bytes (xor_bytes xs ys) zs ≡ xor_bytes xs (xor_bytes ys zs)
xor_bytes-assoc [] ys zs = refl
xor_bytes-assoc (x ∷ xs) [] zs = refl
xor_bytes-assoc (x ∷ xs) (y ∷ ys) [] = refl
xor_bytes-assoc (x ∷ xs) (y ∷ ys) (z ∷ zs) = ap₂ (λ (a : ℕ) (as_ : List ℕ). a ∷ as_) (xor_assoc x y z) (xor_bytes-assoc xs ys zs)

-- adding zeros
pub xor_bytes-zeros : (n : ℕ) (xs : List ℕ) → length xs ≡ n → xor_bytes xs (zeros n) ≡ xs
xor_bytes-zeros zero [] e = refl
xor_bytes-zeros zero (x ∷ xs) e = absurd (omega arith)
xor_bytes-zeros (suc n) [] e = refl
xor_bytes-zeros (suc n) (x ∷ xs) e = ap₂ (λ (a : ℕ) (as_ : List ℕ). a ∷ as_) (xor_zero_r x) (xor_bytes-zeros n xs (omega arith))

-- What `absorb` computes, in the standard's terms.
use Rattle.ghash_core.specs.Block.{bits, block_of, plus, product, power, ghash, first_blocks}
use Rattle.ghash_core.specs.Number.{horner, number_power, number_ghash, number_product, digits, digits_product, number_of}
use Rattle.ghash_core.proofs.Field.{horner_is_sum, number_power-lt}
use Rattle.ghash_core.proofs.Bits.{plus-bits, product-bits, power-bits, ghash-bits}
use Rattle.ghash_core.proofs.Groups.{bit_of_mod}
use Rattle.std.proofs.Common.{◌≡◌, ℕ, zero, suc, ◌+◌, ◌-◌, ◌*◌, ◌/◌, ◌%◌, ◌^◌, ◌<◌, ◌≤◌, Bool, List, [], ◌∷◌, ◌++◌, length, take, drop, get_or, nat_eq, map, refl, sym, ap, ◌∙◌, arith, subst, inl, inr, lit<}
use Rattle.std.proofs.lemmas.Nat.{shr-shr, shr_high, mod_low, pow-add, mul-add-lt}
use Rattle.std.specs.Int.{bytes_high_first, byte_at}
use Rattle.std.specs.Prelude.{replicate}
use Rattle.std.proofs.lemmas.List.{length-take, length-append, length-replicate, get_or-drop, get_or-take, get_or_append_left, get_or_past}
use Rattle.std.proofs.Math.Seq.{get_or-append_right}
use Rattle.std.proofs.Math.Nat.{pow-suc}
use Rattle.std.proofs.lemmas.Bool.{cases_lt}
use Rattle.ghash_core.proofs.Bytes.{zeros16, zeros_at}
use Rattle.ghash_core.specs.Number.{numbers}

-- acc times H^m and the GHASH of m blocks
pub horner_bits : (h acc : ℕ) (xs : List ℕ) → h < 2 ^ 128 → acc < 2 ^ 128 →
    bits 128 (horner h acc xs) ≡ plus (product (bits 128 acc) (power (bits 128 h) (length xs))) (ghash (bits 128 h) (map (bits 128) xs))
unfolding number_product
horner_bits h acc xs l k =
    let n = length xs in
    ap (bits 128) (horner_is_sum h acc xs l k)
    ∙ sym (ap (λ (p : List Bool). plus (product (bits 128 acc) p) (ghash (bits 128 h) (map (bits 128) xs))) (power-bits h n l)
    ∙ ap (λ (p : List Bool). plus p (ghash (bits 128 h) (map (bits 128) xs))) (product-bits 128 acc (number_power h n) (number_power-lt h n l))
    ∙ ap (plus (bits 128 (digits_product (digits 128 acc) (number_power h n)))) (ghash-bits h xs l)
    ∙ plus-bits 128 (digits_product (digits 128 acc) (number_power h n)) (number_ghash h xs))

-- ---- bytes
unfoldable pub value : List ℕ → ℕ
value [] = 0
value (b ∷ bytes) = b * 2 ^ (8 * length bytes) + value bytes

pub bits_split : (j k n : ℕ) → bits (j + k) n ≡ bits j (n / 2 ^ k) ++ bits k n
unfolding bits
bits_split zero k n = ap (λ (x : ℕ). bits x n) (omega arith)
bits_split (suc j) k n =
    let e : suc j + k ≡ suc (j + k) = omega arith in
    let place : n / 2 ^ k / 2 ^ j % 2 ≡ n / 2 ^ (j + k) % 2 = ap (λ (x : ℕ). x % 2) (shr-shr n k j ∙ ap (λ (x : ℕ). n / 2 ^ x) (omega arith)) in
    ap (λ (x : ℕ). bits x n) e
    ∙ ap (λ (x : ℕ). nat_eq x 1 ∷ bits (j + k) n) (sym place)
    ∙ ap (λ (xs : List Bool). nat_eq (n / 2 ^ k / 2 ^ j % 2) 1 ∷ xs) (bits_split j k n)

pub bits-mod : (k m n : ℕ) → k ≤ m → bits k (n % 2 ^ m) ≡ bits k n
unfolding bits
bits-mod zero m n h = refl
bits-mod (suc k) m n h = ap (λ (x : ℕ). nat_eq x 1 ∷ bits k (n % 2 ^ m)) (bit_of_mod k m n h) ∙ ap (λ (xs : List Bool). nat_eq (n / 2 ^ k % 2) 1 ∷ xs) (bits-mod k m n (omega arith))

pub value-lt : (bytes : List ℕ) → ((i : ℕ) → get_or bytes i 0 < 256) → value bytes < 2 ^ (8 * length bytes)
unfolding value
value-lt [] h = omega arith
value-lt (b ∷ bytes) h =
    let k = 8 * length bytes in
    let more : 8 * suc (length bytes) ≡ 8 + k = omega arith in
    let low : value bytes < 2 ^ k = value-lt bytes (λ i. h (suc i)) in
    let top : b < 256 = h 0 in
    let p : 2 ^ (8 + k) ≡ 256 * 2 ^ k = pow-add 2 8 k in
    subst (λ (x : ℕ). b * 2 ^ k + value bytes < 2 ^ x) (sym more) (subst (λ (x : ℕ). b * 2 ^ k + value bytes < x) (sym p) (omega (arith, mul-add-lt b (2 ^ k) (value bytes) 256 top low)))

pub value-bits : (bytes : List ℕ) → ((i : ℕ) → get_or bytes i 0 < 256) → bits (8 * length bytes) (value bytes) ≡ block_of bytes
unfolding value bits block_of
value-bits [] h = refl
value-bits (b ∷ bytes) h =
    let k = 8 * length bytes in
    let more : 8 * suc (length bytes) ≡ 8 + k = omega arith in
    let low : value bytes < 2 ^ k = value-lt bytes (λ i. h (suc i)) in
    let v = b * 2 ^ k + value bytes in
    ap (λ (n : ℕ). bits n v) more
    ∙ bits_split 8 k v
    ∙ ap (λ (x : ℕ). bits 8 x ++ bits k v) (shr_high b k (value bytes) low)
    ∙ ap (λ (xs : List Bool). bits 8 b ++ xs) (sym (bits-mod k k v (omega arith)) ∙ ap (bits k) (mod_low b k (value bytes) low) ∙ value-bits bytes (λ i. h (suc i)))

pub number_is_value : (bytes : List ℕ) → length bytes ≡ 16 → number_of bytes ≡ value bytes
unfolding value number_of
number_is_value (a ∷ b ∷ c ∷ d ∷ e ∷ f ∷ g ∷ h ∷ i ∷ j ∷ k ∷ l ∷ m ∷ n ∷ o ∷ p ∷ []) q = omega arith
number_is_value bytes q = absurd (omega arith)

pub number_bits : (bytes : List ℕ) → length bytes ≡ 16 → ((i : ℕ) → get_or bytes i 0 < 256) → bits 128 (number_of bytes) ≡ block_of bytes
number_bits bytes q h =
    ap (bits 128) (number_is_value bytes q) ∙ sym (ap (λ (n : ℕ). bits (8 * n) (value bytes)) q) ∙ value-bits bytes h

-- ---- what is written back
no_bits : (n : ℕ) → block_of (bytes_high_first 0 n) ≡ bits (8 * 0) n
unfolding block_of bits
no_bits n = refl

pub pow256 : (m : ℕ) → 256 ^ m ≡ 2 ^ (8 * m)
pow256 zero = refl
pow256 (suc m) = pow-suc 256 m ∙ ap (λ (x : ℕ). x * 256) (pow256 m) ∙ sym (pow-add 2 (8 * m) 8) ∙ ap (λ (e : ℕ). 2 ^ e) (let q : 8 * m + 8 ≡ 8 * suc m = omega arith in q)

byte-bits : (k n : ℕ) → bits 8 (byte_at k n) ≡ bits 8 (n / 2 ^ (8 * k))
byte-bits zero n = bits-mod 8 8 n (omega arith) ∙ ap (bits 8) (let e : n ≡ n / 1 = omega arith in e)
byte-bits (suc k) n = bits-mod 8 8 (n / 256 ^ suc k) (omega arith) ∙ ap (λ (p : ℕ). bits 8 (n / p)) (pow256 (suc k))

pub bytes-bits : (k n : ℕ) → block_of (bytes_high_first k n) ≡ bits (8 * k) n
unfolding block_of
bytes-bits zero n = no_bits n
bytes-bits (suc k) n =
    let more : 8 * suc k ≡ 8 + 8 * k = omega arith in
    ap (λ (xs : List Bool). xs ++ block_of (bytes_high_first k n)) (byte-bits k n)
    ∙ ap (λ (xs : List Bool). bits 8 (n / 2 ^ (8 * k)) ++ xs) (bytes-bits k n)
    ∙ sym (ap (λ (m : ℕ). bits m n) more ∙ bits_split 8 (8 * k) n)

-- ---- blocks
pub padded_length : (bytes : List ℕ) → length (take 16 (bytes ++ replicate 16 0)) ≡ 16
padded_length xs = simp (length-take, length-append, length-replicate) (omega arith)

pub padded_fits : (bytes : List ℕ) → ((i : ℕ) → get_or bytes i 0 < 256) → (i : ℕ) → get_or (take 16 (bytes ++ replicate 16 0)) i 0 < 256
padded_fits bytes h i = elim (cases_lt i 16) [
  | inl in_block ↦ subst (λ (x : ℕ). x < 256) (sym (get_or-take 16 (bytes ++ replicate 16 0) i 0 in_block)) (elim (cases_lt i (length bytes)) [
    | inl below ↦ subst (λ (x : ℕ). x < 256) (sym (get_or_append_left bytes zeros16 0 i below)) (h i)
    | inr above ↦ subst (λ (x : ℕ). x < 256) (sym (get_or-append_right bytes zeros16 i 0 above ∙ zeros_at (i - length bytes))) (lit< tt)
  ])
  | inr past ↦ subst (λ (x : ℕ). x < 256) (sym (get_or_past (take 16 (bytes ++ replicate 16 0)) i 0 (omega (arith, padded_length bytes)))) (lit< tt)
]

pub first_blocks-numbers : (n : ℕ) (bytes : List ℕ) → ((i : ℕ) → get_or bytes i 0 < 256) → map (bits 128) (numbers n bytes) ≡ first_blocks n bytes
unfolding numbers first_blocks
first_blocks-numbers zero bytes h = refl
first_blocks-numbers (suc n) bytes h =
    ap (λ (b : List Bool). b ∷ map (bits 128) (numbers n (drop 16 bytes))) (number_bits (take 16 (bytes ++ replicate 16 0)) (padded_length bytes) (padded_fits bytes h))
    ∙ ap (λ (bs : List (List Bool)). block_of (take 16 (bytes ++ replicate 16 0)) ∷ bs) (first_blocks-numbers n (drop 16 bytes) (λ i. subst (λ (x : ℕ). x < 256) (sym (get_or-drop 16 bytes i 0)) (h (16 + i))))

pub length-numbers : (n : ℕ) (bytes : List ℕ) → length (numbers n bytes) ≡ n
unfolding numbers
length-numbers zero bytes = refl
length-numbers (suc n) bytes = ap suc (length-numbers n (drop 16 bytes))

pub number-lt : (bytes : List ℕ) → length bytes ≡ 16 → ((i : ℕ) → get_or bytes i 0 < 256) → number_of bytes < 2 ^ 128
number-lt bytes size h = subst (λ (x : ℕ). x < 2 ^ 128) (sym (number_is_value bytes size)) (subst (λ (n : ℕ). value bytes < 2 ^ (8 * n)) size (value-lt bytes h))

pub length-first_blocks : (n : ℕ) (bytes : List ℕ) → length (first_blocks n bytes) ≡ n
unfolding first_blocks
length-first_blocks zero bytes = refl
length-first_blocks (suc n) bytes = ap suc (length-first_blocks n (drop 16 bytes))

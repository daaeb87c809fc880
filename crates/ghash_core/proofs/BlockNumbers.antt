-- Blocks of bytes as numbers, four at a time.
use Rattle.ghash_core.specs.Block.{blocks_in, bytes_of}
use Rattle.ghash_core.specs.Number.{shift_by, horner, numbers, number_of, number_product, number_power, number_ghash}
use Rattle.ghash_core.proofs.Field.{horner_is_sum, number_product-xor_left, number_product_comm, number_product-one}
use Rattle.ghash_core.proofs.Groups.{shift_by-multiple}
use Rattle.ghash_core.proofs.Sums.{value, value-lt, number_is_value, number_bits}
use Rattle.ghash_core.proofs.BlockBytes.{bytes_of-number, bytes_of-block_of, length-bytes}
use Rattle.ghash_core.proofs.Bytes.{whole_block}
use Rattle.ghash_core.specs.ByBytes.{by_bytes, first_byte, polynomial}
use Rattle.ghash_core.proofs.LookUps.{byte_at-lt}
use Rattle.ghash_core.proofs.ByteSums.{AreBytes}
use Rattle.std.proofs.Common.{◌≡◌, ℕ, zero, suc, ◌+◌, ◌-◌, ◌*◌, ◌/◌, ◌%◌, ◌^◌, ◌<◌, ◌≤◌, List, [], ◌∷◌, length, take, drop, get_or, refl, sym, ap, ◌∙◌, arith, w8, Fits, lit<, subst}
use Rattle.std.specs.Int.{bytes_high_first, byte_at}
use Rattle.std.specs.Int.Bits.{bit_xor, xor_assoc, xor_zero_r, xor_shifted}
use Rattle.std.proofs.lemmas.Nat.{pow-add, shl_below, mod-pow-add}
use Rattle.std.proofs.Math.Nat.{mul_assoc, add-mul, mod-eq_of_lt}
use Rattle.std.proofs.lemmas.List.{length-drop, length-take, take_all}
use Rattle.std.proofs.lemmas.Simd.{chunk-fits}
use Rattle.std.proofs.lemmas.Grind.{same_number_lists}
use Rattle.ghash_core.proofs.PlaceValues.{byte_of, byte_is, nth_byte}
use lib.Lanes.{chunk}

by_value : (xs : List ℕ) → length xs ≤ 16 → AreBytes xs → by_bytes first_byte xs ≡ value xs * 2 ^ (128 - 8 * length xs)
unfolding value by_bytes
by_value [] l h = refl
by_value (b ∷ xs) l h =
    let k = 8 * length xs in
    let e = 120 - k in
    let v = value xs in
    let room : 128 - k ≡ e + 8 = omega arith in
    let left : 128 - 8 * suc (length xs) ≡ e = omega arith in
    let sum : k + e ≡ 120 = omega arith in
    let low : v * 2 ^ e < 2 ^ 120 = subst (λ (n : ℕ). v * 2 ^ e < 2 ^ n) sum (shl_below v k e (value-lt xs (λ i. byte_at-lt xs i h.1))) in
    ap (λ (x : ℕ). bit_xor (first_byte b) (shift_by 8 x)) (by_value xs (omega arith) h.1)
    ∙ ap (bit_xor (first_byte b)) (ap (λ (n : ℕ). shift_by 8 (v * 2 ^ n)) room ∙ ap (λ (x : ℕ). shift_by 8 (v * x)) (pow-add 2 e 8) ∙ ap (shift_by 8) (sym (mul_assoc v (2 ^ e) (2 ^ 8))) ∙ shift_by-multiple 8 (v * 2 ^ e))
    ∙ xor_shifted b 120 (v * 2 ^ e) low
    ∙ sym (ap (λ (n : ℕ). (b * 2 ^ k + v) * 2 ^ n) left ∙ add-mul (b * 2 ^ k) v (2 ^ e)
    ∙ ap (λ (x : ℕ). x + v * 2 ^ e) (mul_assoc b (2 ^ k) (2 ^ e) ∙ ap (λ (x : ℕ). b * x) (sym (pow-add 2 k e) ∙ ap (λ (n : ℕ). 2 ^ n) sum)))

pub number_is : (xs : List ℕ) → length xs ≡ 16 → AreBytes xs → number_of xs ≡ polynomial xs
unfolding polynomial
number_is xs l h =
    number_is_value xs l ∙ sym (by_value xs (omega arith) h ∙ ap (λ (n : ℕ). value xs * 2 ^ (128 - 8 * n)) l ∙ one (value xs))
  where
    one : (v : ℕ) → v * 2 ^ 0 ≡ v
    one v = omega arith

-- ---- four blocks
pub number_power-one : (h : ℕ) → h < 2 ^ 128 → number_power h 1 ≡ h
unfolding number_power
number_power-one h l = number_product_comm (2 ^ 127) h (lit< tt) l ∙ number_product-one h l

pub number_power-next : (h n : ℕ) → number_power h (suc n) ≡ number_product (number_power h n) h
unfolding number_power
number_power-next h n = refl

horner_by_four : (h acc a b c d : ℕ) (xs : List ℕ) → h < 2 ^ 128 → acc < 2 ^ 128 →
    horner h acc (a ∷ b ∷ c ∷ d ∷ xs) ≡ horner h (bit_xor (number_product (bit_xor acc a) (number_power h 4)) (bit_xor (number_product b (number_power h 3)) (bit_xor (number_product c (number_power h 2)) (number_product d (number_power h 1))))) xs
unfolding horner number_ghash
horner_by_four h acc a b c d xs l k =
    ap (λ (y : ℕ). horner h y xs)
    (horner_is_sum h acc (a ∷ b ∷ c ∷ d ∷ []) l k
    ∙ sym (xor_assoc (number_product acc (number_power h 4)) (number_product a (number_power h 4)) _)
    ∙ ap (λ (y : ℕ). bit_xor y (bit_xor (number_product b (number_power h 3)) (bit_xor (number_product c (number_power h 2)) (bit_xor (number_product d (number_power h 1)) 0)))) (sym (number_product-xor_left acc a (number_power h 4)))
    ∙ ap (λ (y : ℕ). bit_xor (number_product (bit_xor acc a) (number_power h 4)) (bit_xor (number_product b (number_power h 3)) (bit_xor (number_product c (number_power h 2)) y))) (xor_zero_r (number_product d (number_power h 1))))

pub four_blocks : (h y s a b c d : ℕ) (rest r1 r2 r3 r4 : List ℕ) → h < 2 ^ 128 → y < 2 ^ 128 → 64 ≤ length rest →
    a ≡ number_of (take 16 rest) → r1 ≡ drop 16 rest → b ≡ number_of (take 16 r1) → r2 ≡ drop 16 r1 →
    c ≡ number_of (take 16 r2) → r3 ≡ drop 16 r2 → d ≡ number_of (take 16 r3) → r4 ≡ drop 16 r3 →
    s ≡ bit_xor (number_product (bit_xor y a) (number_power h 4)) (bit_xor (number_product b (number_power h 3)) (bit_xor (number_product c (number_power h 2)) (number_product d (number_power h 1)))) →
    horner h y (numbers (blocks_in (length rest)) rest) ≡ horner h s (numbers (blocks_in (length r4)) r4)
unfolding horner
four_blocks h y s a b c d rest r1 r2 r3 r4 l k long ea e1 eb e2 ec e3 ed e4 es =
    let l1 : length r1 + 16 ≡ length rest = omega (arith, ap length e1, length-drop 16 rest) in
    let l2 : length r2 + 16 ≡ length r1 = omega (arith, ap length e2, length-drop 16 r1) in
    let l3 : length r3 + 16 ≡ length r2 = omega (arith, ap length e3, length-drop 16 r2) in
    let l4 : length r4 + 16 ≡ length r3 = omega (arith, ap length e4, length-drop 16 r3) in
    let ya = number_product (bit_xor y a) h in
    let yb = number_product (bit_xor ya b) h in
    let yc = number_product (bit_xor yb c) h in
    let yd = number_product (bit_xor yc d) h in
    let tail = numbers (blocks_in (length r4)) r4 in
    whole_block h y rest (take 16 rest) r1 refl e1 l1
    ∙ ap (λ (x : ℕ). horner h (number_product (bit_xor y x) h) (numbers (blocks_in (length r1)) r1)) (sym ea)
    ∙ whole_block h ya r1 (take 16 r1) r2 refl e2 l2
    ∙ ap (λ (x : ℕ). horner h (number_product (bit_xor ya x) h) (numbers (blocks_in (length r2)) r2)) (sym eb)
    ∙ whole_block h yb r2 (take 16 r2) r3 refl e3 l3
    ∙ ap (λ (x : ℕ). horner h (number_product (bit_xor yb x) h) (numbers (blocks_in (length r3)) r3)) (sym ec)
    ∙ whole_block h yc r3 (take 16 r3) r4 refl e4 l4
    ∙ ap (λ (x : ℕ). horner h (number_product (bit_xor yc x) h) tail) (sym ed)
    ∙ ap (λ (x : ℕ). horner h x tail) (horner_by_four h y a b c d [] l k ∙ sym es)

pub whole_sixteen : (xs : List ℕ) → length xs ≡ 16 → take 16 xs ≡ xs
whole_sixteen xs l = take_all 16 xs (omega arith)

-- the block that a load takes from bytes
pub number_loaded : (xs : List ℕ) → 16 ≤ length xs → ((k : ℕ) → Fits w8 (get_or xs k 0)) → polynomial (chunk 0 16 xs) ≡ number_of (take 16 xs)
number_loaded xs l h = sym (number_is (take 16 xs) (omega (arith, length-take 16 xs)) (chunk-fits w8 0 16 xs h))

pub taken : (xs rest : List ℕ) → xs ≡ take 16 rest → take 16 xs ≡ xs
taken xs rest e = take_all 16 xs (omega (arith, ap length e, length-take 16 rest))

pub four_products : (h a b c d a' b' c' d' : ℕ) → a ≡ a' → b ≡ b' → c ≡ c' → d ≡ d' →
    bit_xor (number_product a (number_power h 4)) (bit_xor (number_product b (number_power h 3)) (bit_xor (number_product c (number_power h 2)) (number_product d (number_power h 1))))
    ≡ bit_xor (number_product a' (number_power h 4)) (bit_xor (number_product b' (number_power h 3)) (bit_xor (number_product c' (number_power h 2)) (number_product d' (number_power h 1))))
four_products h a b c d a' b' c' d' ea eb ec ed = cc

-- the bytes of a block
pub bytes_back : (xs : List ℕ) → length xs ≡ 16 → AreBytes xs → xs ≡ bytes_high_first 16 (polynomial xs)
bytes_back xs l h =
    let n = number_of xs in
    let fit : (i : ℕ) → get_or xs i 0 < 256 = λ i. byte_at-lt xs i h in
    sym (ap (bytes_high_first 16) (sym (number_is xs l h)) ∙ sym (bytes_of-number n) ∙ ap bytes_of (number_bits xs l fit) ∙ bytes_of-block_of xs l fit)

-- ---- a block from its bytes
value-bytes : (k n : ℕ) → value (bytes_high_first k n) ≡ n % 2 ^ (8 * k)
unfolding value
value-bytes zero n = omega arith
value-bytes (suc k) n =
    let more : 8 * suc k ≡ 8 + 8 * k = omega arith in
    ap (λ (l : ℕ). byte_at k n * 2 ^ (8 * l) + value (bytes_high_first k n)) (length-bytes k n)
    ∙ ap (λ (b : ℕ). b * 2 ^ (8 * k) + value (bytes_high_first k n)) (byte_is k n)
    ∙ ap (λ (v : ℕ). n / 2 ^ (8 * k) % 2 ^ 8 * 2 ^ (8 * k) + v) (value-bytes k n)
    ∙ sym (ap (λ (e : ℕ). n % 2 ^ e) more ∙ mod-pow-add n 8 (8 * k))

pub number_from_bytes : (xs : List ℕ) (n : ℕ) → length xs ≡ 16 → n < 2 ^ 128 → ((k : ℕ) → k < 16 → get_or xs k 0 ≡ byte_of k n) → number_of xs ≡ n
number_from_bytes xs n l below each =
    let bytes = bytes_high_first 16 n in
    let same : xs ≡ bytes = same_number_lists xs bytes (l ∙ sym (length-bytes 16 n)) (λ k h. each k (omega arith) ∙ sym (nth_byte bytes n k refl (omega arith))) in
    ap number_of same ∙ number_is_value bytes (length-bytes 16 n) ∙ value-bytes 16 n ∙ mod-eq_of_lt below

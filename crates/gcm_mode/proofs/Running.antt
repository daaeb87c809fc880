-- The running value of GHASH, taken over one byte string after the other, is the GHASH of all their blocks.
use Rattle.ghash_core.specs.Block.{bits, block_of, zero_block, absorbed, ghash, product, power, plus, blocks_in, blocks_of, bytes_of, value_of_bits, first_bytes}
use Rattle.ghash_core.specs.Number.{digits, digits_product, number_product, number_power, number_ghash, number_of, numbers, horner}
use Rattle.ghash_core.proofs.Field.{horner_is_sum, number_product-lt}
use Rattle.ghash_core.proofs.Bits.{ghash-bits}
use Rattle.ghash_core.proofs.Sums.{horner_bits, number_bits, number-lt, first_blocks-numbers}
use Rattle.ghash_core.proofs.BlockBytes.{block_of-bytes_of, bytes_fit}
use Rattle.gcm_mode.specs.Gcm.{bit_lengths}
use Rattle.std.proofs.Common.{◌≡◌, ℕ, zero, suc, ◌*◌, ◌/◌, ◌%◌, ◌^◌, ◌<◌, List, [], ◌∷◌, ◌++◌, Bool, length, get_or, bit_xor, map, refl, sym, ap, ◌∙◌, arith, lit<}
use Rattle.std.specs.Prelude.{replicate}
use Rattle.std.specs.Int.{bytes_high_first}
use Rattle.std.specs.Int.Bits.{xor_zero_l}
use Rattle.std.proofs.lemmas.List.{length-map, map-append}

-- a byte string as the numbers of its blocks
abbrev block_numbers : List ℕ → List ℕ
block_numbers bytes = numbers (blocks_in (length bytes)) bytes

blocks-numbers : (bytes : List ℕ) → ((i : ℕ) → get_or bytes i 0 < 256) → map (bits 128) (block_numbers bytes) ≡ blocks_of bytes
unfolding blocks_of
blocks-numbers bytes fits = first_blocks-numbers (blocks_in (length bytes)) bytes fits

absorbed-bits : (h acc : ℕ) (ms : List ℕ) → h < 2 ^ 128 → acc < 2 ^ 128 →
    absorbed (bits 128 h) (bits 128 acc) (map (bits 128) ms) ≡ bits 128 (horner h acc ms)
unfolding absorbed
absorbed-bits h acc ms l k =
    ap (λ (n : ℕ). plus (product (bits 128 acc) (power (bits 128 h) n)) (ghash (bits 128 h) (map (bits 128) ms))) (length-map ms (bits 128))
    ∙ sym (horner_bits h acc ms l k)

digits_product-none : (k v : ℕ) → digits_product (digits k 0) v ≡ 0
unfolding digits_product digits
digits_product-none zero v = refl
digits_product-none (suc k) v =
    let none : 0 / 2 ^ k % 2 ≡ 0 = omega arith in
    ap (λ (b : ℕ). digits_product (b ∷ digits k 0) v) none ∙ digits_product-none k _

horner-zero : (h : ℕ) (ns : List ℕ) → h < 2 ^ 128 → horner h 0 ns ≡ number_ghash h ns
unfolding number_product
horner-zero h ns l =
    horner_is_sum h 0 ns l (lit< tt)
    ∙ ap (λ (x : ℕ). bit_xor x (number_ghash h ns)) (digits_product-none 128 (number_power h (length ns)))
    ∙ xor_zero_l (number_ghash h ns)

ghash-horner : (h : ℕ) (ns : List ℕ) → h < 2 ^ 128 → ghash (bits 128 h) (map (bits 128) ns) ≡ bits 128 (horner h 0 ns)
ghash-horner h ns l = ghash-bits h ns l ∙ ap (bits 128) (sym (horner-zero h ns l))

horner-append : (h acc : ℕ) (ns ms : List ℕ) → horner h acc (ns ++ ms) ≡ horner h (horner h acc ns) ms
unfolding horner
horner-append h acc [] ms = refl
horner-append h acc (n ∷ ns) ms = horner-append h (number_product (bit_xor acc n) h) ns ms

horner-lt : (h acc : ℕ) (ns : List ℕ) → h < 2 ^ 128 → acc < 2 ^ 128 → horner h acc ns < 2 ^ 128
unfolding horner
horner-lt h acc [] l k = k
horner-lt h acc (n ∷ ns) l k = horner-lt h (number_product (bit_xor acc n) h) ns l (number_product-lt (bit_xor acc n) h l)

absorbed-ghash : (h : ℕ) (ns ms : List ℕ) → h < 2 ^ 128 →
    absorbed (bits 128 h) (ghash (bits 128 h) (map (bits 128) ns)) (map (bits 128) ms) ≡ ghash (bits 128 h) (map (bits 128) (ns ++ ms))
absorbed-ghash h ns ms l =
    ap (λ (acc : List Bool). absorbed (bits 128 h) acc (map (bits 128) ms)) (ghash-horner h ns l)
    ∙ absorbed-bits h (horner h 0 ns) ms l (horner-lt h 0 ns l (lit< tt))
    ∙ ap (bits 128) (sym (horner-append h 0 ns ms))
    ∙ sym (ghash-horner h (ns ++ ms) l)

-- xs are blocks of 128 bits
pub record AreBlocks (xs : List (List Bool)) : Type 0 where
  pub numbers : List ℕ
  pub are : map (bits 128) numbers ≡ xs

pub byte_blocks : (bytes : List ℕ) → ((i : ℕ) → get_or bytes i 0 < 256) → AreBlocks (blocks_of bytes)
byte_blocks bytes fits = record { numbers = block_numbers bytes; are = blocks-numbers bytes fits }

pub joined : (xs ys : List (List Bool)) → AreBlocks xs → AreBlocks ys → AreBlocks (xs ++ ys)
joined xs ys p q = record {
  numbers = p.numbers ++ q.numbers;
  are = map-append (bits 128) p.numbers q.numbers ∙ ap (λ (zs : List (List Bool)). zs ++ map (bits 128) q.numbers) p.are ∙ ap (λ (zs : List (List Bool)). xs ++ zs) q.are;
}

-- a subkey of 16 bytes
pub record IsSubkey (h : List ℕ) : Type 0 where
  pub size : length h ≡ 16
  pub bytes : (i : ℕ) → get_or h i 0 < 256

subkey_bits : (h : List ℕ) → IsSubkey h → bits 128 (number_of h) ≡ block_of h
subkey_bits h k = number_bits h k.size k.bytes

-- a GHASH goes on with more blocks
pub goes_on : (h : List ℕ) (xs ys : List (List Bool)) → IsSubkey h → AreBlocks xs → AreBlocks ys →
    absorbed (block_of h) (ghash (block_of h) xs) ys ≡ ghash (block_of h) (xs ++ ys)
unfolding joined
goes_on h xs ys k p q =
    let n = number_of h in
    sym (ap (λ (s : List Bool). absorbed s (ghash s (map (bits 128) p.numbers)) (map (bits 128) q.numbers)) (subkey_bits h k)
    ∙ ap (λ (zs : List (List Bool)). absorbed (block_of h) (ghash (block_of h) zs) (map (bits 128) q.numbers)) p.are
    ∙ ap (absorbed (block_of h) (ghash (block_of h) xs)) q.are)
    ∙ absorbed-ghash n p.numbers q.numbers (number-lt h k.size k.bytes)
    ∙ ap (λ (s : List Bool). ghash s (map (bits 128) (p.numbers ++ q.numbers))) (subkey_bits h k)
    ∙ ap (ghash (block_of h)) (joined xs ys p q).are

-- the block of a GHASH's bytes is found again
ghash-bytes : (h : List ℕ) (xs : List (List Bool)) → IsSubkey h → AreBlocks xs → block_of (bytes_of (ghash (block_of h) xs)) ≡ ghash (block_of h) xs
ghash-bytes h xs k p =
    let n = horner (number_of h) 0 p.numbers in
    let spelled : ghash (block_of h) xs ≡ bits 128 n =
    sym (ap (λ (s : List Bool). ghash s (map (bits 128) p.numbers)) (subkey_bits h k) ∙ ap (ghash (block_of h)) p.are)
    ∙ ghash-horner (number_of h) p.numbers (number-lt h k.size k.bytes) in
    ap (λ (s : List Bool). block_of (bytes_of s)) spelled ∙ block_of-bytes_of n ∙ sym spelled

-- a running value is the GHASH of the blocks so far
pub record Hashes (h : List ℕ) (xs : List (List Bool)) (value : List ℕ) : Type 0 where
  pub blocks : AreBlocks xs
  pub hash : value ≡ bytes_of (ghash (block_of h) xs)

-- it begins with the zero block
pub hashes_none : (h : List ℕ) → Hashes h [] (replicate 16 0)
unfolding ghash zero_block bytes_of first_bytes value_of_bits
hashes_none h = record { blocks = record { numbers = []; are = refl }; hash = refl }

-- and goes on with the blocks of more bytes
pub hashes_more : (h bytes before after : List ℕ) (xs : List (List Bool)) → IsSubkey h → ((i : ℕ) → get_or bytes i 0 < 256) → Hashes h xs before →
    after ≡ bytes_of (absorbed (block_of h) (block_of before) (blocks_of bytes)) → Hashes h (xs ++ blocks_of bytes) after
hashes_more h bytes before after xs k fits so_far e = record {
  blocks = joined xs (blocks_of bytes) so_far.blocks (byte_blocks bytes fits);
  hash =
      e ∙ ap (λ (b : List ℕ). bytes_of (absorbed (block_of h) (block_of b) (blocks_of bytes))) so_far.hash
      ∙ ap (λ (b : List Bool). bytes_of (absorbed (block_of h) b (blocks_of bytes))) (ghash-bytes h xs k so_far.blocks)
      ∙ ap bytes_of (goes_on h xs (blocks_of bytes) k so_far.blocks (byte_blocks bytes fits));
}

fits-append : (xs ys : List ℕ) → ((i : ℕ) → get_or xs i 0 < 256) → ((i : ℕ) → get_or ys i 0 < 256) → (i : ℕ) → get_or (xs ++ ys) i 0 < 256
fits-append [] ys p q i = q i
fits-append (x ∷ xs) ys p q zero = p 0
fits-append (x ∷ xs) ys p q (suc i) = fits-append xs ys (λ j. p (suc j)) q i

-- the block of two lengths is made of bytes
pub lengths_fit : (m n i : ℕ) → get_or (bit_lengths m n) i 0 < 256
unfolding bit_lengths
lengths_fit m n i = fits-append (bytes_high_first 8 (8 * m)) (bytes_high_first 8 (8 * n)) (bytes_fit 8 (8 * m)) (bytes_fit 8 (8 * n)) i

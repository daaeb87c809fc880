-- A block of bits and its bytes.
use Rattle.ghash_core.specs.Block.{bits, block_of, value_of_bits, first_bytes, bytes_of}
use Rattle.std.proofs.Common.{◌≡◌, ℕ, zero, suc, ◌+◌, ◌*◌, ◌/◌, ◌%◌, ◌^◌, ◌<◌, List, [], ◌∷◌, ◌++◌, Bool, length, take, drop, get_or, nat_eq, refl, sym, ap, ◌∙◌, arith, one-add, lit<}
use Rattle.std.specs.Prelude.{if◌then◌else◌}
use Rattle.ghash_core.proofs.Sums.{bytes-bits}
use Rattle.std.specs.Int.{bytes_high_first, byte_at}
use Rattle.std.proofs.lemmas.Nat.{mod-pow-add, mod_below}
use Rattle.std.proofs.Math.Nat.{one-mul, mod-eq_of_lt}

length-bits : (k n : ℕ) → length (bits k n) ≡ k
unfolding bits
length-bits zero n = refl
length-bits (suc k) n = ap suc (length-bits k n)

bit_place : (b p : ℕ) → b < 2 → (if nat_eq b 1 then p else 0) ≡ b * p
bit_place zero p h = omega arith
bit_place (suc zero) p h = sym (one-mul p)
bit_place (suc (suc b)) p h = absurd (omega arith)

pub value-bits : (k n : ℕ) → value_of_bits (bits k n) ≡ n % 2 ^ k
unfolding bits value_of_bits
value-bits zero n = omega arith
value-bits (suc k) n =
    ap (λ (p : ℕ). (if nat_eq (n / 2 ^ k % 2) 1 then 2 ^ p else 0) + value_of_bits (bits k n)) (length-bits k n)
    ∙ ap (λ (x : ℕ). x + value_of_bits (bits k n)) (bit_place (n / 2 ^ k % 2) (2 ^ k) (omega arith))
    ∙ ap (λ (x : ℕ). n / 2 ^ k % 2 * 2 ^ k + x) (value-bits k n)
    ∙ sym (mod-pow-add n 1 k)
    ∙ ap (λ (e : ℕ). n % 2 ^ e) (one-add k)

take-bits : (n : ℕ) (bs : List Bool) → take 8 (bits 8 n ++ bs) ≡ bits 8 n
unfolding bits
take-bits n bs = refl

drop-bits : (n : ℕ) (bs : List Bool) → drop 8 (bits 8 n ++ bs) ≡ bs
unfolding bits
drop-bits n bs = refl

first_bytes-block_of : (n : ℕ) (bytes : List ℕ) → length bytes ≡ n → ((i : ℕ) → get_or bytes i 0 < 256) → first_bytes n (block_of bytes) ≡ bytes
unfolding first_bytes block_of
first_bytes-block_of zero [] size fits = refl
first_bytes-block_of zero (b ∷ bytes) size fits = absurd (omega arith)
first_bytes-block_of (suc n) [] size fits = absurd (omega arith)
first_bytes-block_of (suc n) (b ∷ bytes) size fits =
    ap (λ (bs : List Bool). value_of_bits bs ∷ first_bytes n (drop 8 (bits 8 b ++ block_of bytes))) (take-bits b (block_of bytes))
    ∙ ap (λ (bs : List Bool). value_of_bits (bits 8 b) ∷ first_bytes n bs) (drop-bits b (block_of bytes))
    ∙ ap (λ (x : ℕ). x ∷ first_bytes n (block_of bytes)) (value-bits 8 b ∙ mod-eq_of_lt (fits 0))
    ∙ ap (λ (bs : List ℕ). b ∷ bs) (first_bytes-block_of n bytes (omega arith) (λ i. fits (suc i)))

-- the bytes of a block are found again
pub bytes_of-block_of : (bytes : List ℕ) → length bytes ≡ 16 → ((i : ℕ) → get_or bytes i 0 < 256) → bytes_of (block_of bytes) ≡ bytes
unfolding bytes_of
bytes_of-block_of bytes size fits = first_bytes-block_of 16 bytes size fits

byte_at-lt : (k n : ℕ) → byte_at k n < 256
byte_at-lt zero n = mod_below n 256 (lit< tt)
byte_at-lt (suc k) n = mod_below (n / 256 ^ suc k) 256 (lit< tt)

-- bytes of a number are bytes
pub bytes_fit : (k n i : ℕ) → get_or (bytes_high_first k n) i 0 < 256
bytes_fit zero n i = lit< tt
bytes_fit (suc k) n zero = byte_at-lt k n
bytes_fit (suc k) n (suc i) = bytes_fit k n i

pub length-bytes : (k n : ℕ) → length (bytes_high_first k n) ≡ k
length-bytes zero n = refl
length-bytes (suc k) n = ap suc (length-bytes k n)

-- the bytes of a number are those of its block
pub bytes_of-number : (n : ℕ) → bytes_of (bits 128 n) ≡ bytes_high_first 16 n
bytes_of-number n = ap bytes_of (sym (bytes-bits 16 n)) ∙ bytes_of-block_of (bytes_high_first 16 n) (length-bytes 16 n) (bytes_fit 16 n)

-- the block of a number's bytes is found again
pub block_of-bytes_of : (n : ℕ) → block_of (bytes_of (bits 128 n)) ≡ bits 128 n
block_of-bytes_of n = ap block_of (bytes_of-number n) ∙ bytes-bits 16 n

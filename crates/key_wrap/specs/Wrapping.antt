-- Key wrapping (SP 800-38F, section 6). A semiblock is eight bytes; `enciphered` is CIPH_K, the cipher
-- under the key encryption key.
use Rattle.std.specs.Prelude.{◌≡◌, ◌≤◌, ℕ, zero, suc, ◌+◌, ◌-◌, ◌*◌, ◌/◌, ◌%◌, ◌==◌, nat_le, if◌then◌else◌, List, [], ◌∷◌, ◌++◌, length, take, drop, replicate}
use Rattle.std.specs.Int.{w32, w64, to_be_bytes}
use Rattle.bits_core.specs.ByteList.{IsBytes, zeros, xor_bytes}
use Rattle.aes_core.specs.Key.{aes}

-- the registers A(t) and R(i, t) of one step t
pub record Registers : Type 0 where
  pub a : List ℕ
  pub r : ℕ → List ℕ

-- semiblock i of a list, counted from 1
abbrev pub semiblock : List ℕ → ℕ → List ℕ
semiblock s i = take 8 (drop (8 * (i - 1)) s)

-- step t of W over n semiblocks: A(t) and R(i, t) from A(t - 1) and R(i, t - 1)
abbrev pub next_registers : (List ℕ → List ℕ) → ℕ → ℕ → Registers → Registers
next_registers enciphered n t before =
    let block = enciphered (before.a ++ before.r 2) in
    record { a = xor_bytes (take 8 block) (to_be_bytes w64 t); r = λ i. if i == n then drop 8 block else before.r (i + 1) }

-- A(t) and R(i, t) of W over s (section 6.1, algorithm 1)
unfoldable pub registers : (List ℕ → List ℕ) → List ℕ → ℕ → Registers
registers enciphered s zero = record { a = semiblock s 1; r = semiblock s }
registers enciphered s (suc t) = next_registers enciphered (length s / 8) (t + 1) (registers enciphered s t)

-- R(2) to R(m + 1), one after another
unfoldable pub row : (ℕ → List ℕ) → ℕ → List ℕ
row r zero = []
row r (suc m) = row r m ++ r (m + 2)

-- W(s): A and R(2) to R(n) after 6(n - 1) steps (section 6.1, algorithm 1)
unfoldable pub wrapped : (List ℕ → List ℕ) → List ℕ → List ℕ
wrapped enciphered s =
    let m = length s / 8 - 1 in
    let last = registers enciphered s (6 * m) in
    last.a ++ row last.r m

-- KW-AE(p): W over ICV1 and the plaintext (section 6.2, algorithm 3)
unfoldable pub kw : (List ℕ → List ℕ) → List ℕ → List ℕ
kw enciphered p = wrapped enciphered (replicate 8 0xa6 ++ p)

-- ICV2, the length in 32 bits, the plaintext, and zeros up to whole semiblocks (section 6.3, algorithm 5)
abbrev pub padded : List ℕ → List ℕ
padded p =
    ((0xa6 ∷ 0x59 ∷ 0x59 ∷ 0xa6 ∷ []) ++ to_be_bytes w32 (length p)) ++ (p ++ zeros (8 * ((length p + 7) / 8) - length p))

-- KWP-AE(p): one block where the plaintext has at most eight bytes, else W (section 6.3, algorithm 5)
unfoldable pub kwp : (List ℕ → List ℕ) → List ℕ → List ℕ
kwp enciphered p = if nat_le (length p) 8 then enciphered (padded p) else wrapped enciphered (padded p)

-- p is a plaintext of KW here: 16 to 64 bytes, in whole semiblocks
pub record IsKwPlain (p : List ℕ) : Type 0 where
  pub least : 16 ≤ length p
  pub most : length p ≤ 64
  pub whole : length p % 8 ≡ 0
  pub bytes : IsBytes p

-- p is a plaintext of KWP here: 1 to 64 bytes
pub record IsKwpPlain (p : List ℕ) : Type 0 where
  pub least : 1 ≤ length p
  pub most : length p ≤ 64
  pub bytes : IsBytes p

-- w is the KW wrapping of p under the key
pub record IsKwOf (key w p : List ℕ) : Type 0 where
  pub plain : IsKwPlain p
  pub wrapping : w ≡ kw (aes key) p

-- w is the KWP wrapping of p under the key
pub record IsKwpOf (key w p : List ℕ) : Type 0 where
  pub plain : IsKwpPlain p
  pub wrapping : w ≡ kwp (aes key) p

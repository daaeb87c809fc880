-- The steps of W in one buffer. The registers stay where they are: at step t the one that the standard
-- calls R(2) is semiblock (t - 1) mod m after the first, of m.
use Rattle.std.specs.Prelude.{◌≡◌, ◌≤◌, ℕ, zero, suc, ◌+◌, ◌*◌, ◌%◌, ◌==◌, if◌then◌else◌, List, ◌++◌, length, take, drop}
use Rattle.std.specs.Int.{w64, to_be_bytes}
use Rattle.bits_core.specs.ByteList.{xor_bytes}
use Rattle.key_wrap.specs.Wrapping.{wrapped, padded}

-- 3 to 9 whole semiblocks
pub record IsSemiblocks (s : List ℕ) : Type 0 where
  pub least : 24 ≤ length s
  pub most : length s ≤ 72
  pub whole : length s % 8 ≡ 0

-- x with other semiblocks at its front and at register i, counted from 0
abbrev pub laid : List ℕ → ℕ → List ℕ → List ℕ → List ℕ
laid front i register x = (front ++ take (8 * i) (drop 8 x)) ++ (register ++ drop (8 * i + 16) x)

-- the front and register i of x, which are one block of the cipher
abbrev pub block_at : ℕ → List ℕ → List ℕ
block_at i x = take 8 x ++ take 8 (drop (8 * i + 8) x)

-- x after step t, which enciphers register i
unfoldable pub stepped : (List ℕ → List ℕ) → ℕ → ℕ → List ℕ → List ℕ
stepped enciphered t i x =
    let block = enciphered (block_at i x) in
    laid (xor_bytes (take 8 block) (to_be_bytes w64 t)) i (drop 8 block) x

-- x after steps 1 to t over m registers
unfoldable pub steps : (List ℕ → List ℕ) → ℕ → ℕ → List ℕ → List ℕ
steps enciphered m zero x = x
steps enciphered m (suc t) x = stepped enciphered (t + 1) (t % m) (steps enciphered m t x)

-- KWP's cipher on a padded plaintext: one block where it has two semiblocks, else W
unfoldable pub padded_cipher : (List ℕ → List ℕ) → List ℕ → List ℕ
padded_cipher enciphered s = if length s == 16 then enciphered s else wrapped enciphered s

-- 2 to 9 whole semiblocks
pub record IsPadded (s : List ℕ) : Type 0 where
  pub least : 16 ≤ length s
  pub most : length s ≤ 72
  pub whole : length s % 8 ≡ 0

-- the text is padded from a plaintext of this size
pub record IsPaddedFrom (text : List ℕ) (size : ℕ) : Type 0 where
  pub some : 1 ≤ size
  pub fits : size + 8 ≤ length text
  pub whole : text ≡ padded (take size (drop 8 text))

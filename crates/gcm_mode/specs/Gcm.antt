-- GCM over AES, after SP 800-38D, section 7. Keys, IVs, texts and tags are lists of bytes.
use Rattle.std.specs.Prelude.{ℕ, ◌*◌, ◌≤◌, ◌==◌, List, [], ◌∷◌, ◌++◌, length, if◌then◌else◌}
use Rattle.std.specs.Int.{w64, to_be_bytes}
use Rattle.bits_core.specs.ByteList.{zeros}
use Rattle.bits_core.specs.declared.limits.TheConstants.{LARGEST_PAYLOAD}
use Rattle.aes_core.specs.Key.{aes}
use Rattle.aes_core.specs.Gctr.{gctr, inc32}
use Rattle.ghash_core.specs.Block.{block_of, blocks_of, bytes_of, ghash}

-- H (7.1, step 1): the encryption of the zero block
unfoldable pub hash_subkey : List ℕ → List ℕ
hash_subkey key = aes key (zeros 16)

-- the lengths in bits of two byte strings of m and n bytes, 64 bits each
unfoldable pub bit_lengths : ℕ → ℕ → List ℕ
bit_lengths m n = to_be_bytes w64 (8 * m) ++ to_be_bytes w64 (8 * n)

-- the GHASH of an IV, zero-padded to whole blocks, 64 zeros and its length
unfoldable pub hashed_iv : List ℕ → List ℕ → List ℕ
hashed_iv key iv = bytes_of (ghash (block_of (hash_subkey key)) (blocks_of iv ++ blocks_of (bit_lengths 0 (length iv))))

-- J0 (7.1, step 2): an IV of 96 bits, 31 zeros and a one; else the GHASH
unfoldable pub initial_counter : List ℕ → List ℕ → List ℕ
initial_counter key iv = if length iv == 12 then iv ++ 0 ∷ 0 ∷ 0 ∷ 1 ∷ [] else hashed_iv key iv

-- S (7.1, steps 4 and 5): the GHASH of the additional data and the ciphertext, each zero-padded, and their lengths
unfoldable pub authenticated : List ℕ → List ℕ → List ℕ → List ℕ
authenticated key aad ciphertext =
    bytes_of (ghash (block_of (hash_subkey key)) ((blocks_of aad ++ blocks_of ciphertext) ++ blocks_of (bit_lengths (length aad) (length ciphertext))))

-- T before it is cut (7.1, step 6), from J0
unfoldable pub full_tag : List ℕ → List ℕ → List ℕ → List ℕ → List ℕ
full_tag key counter aad ciphertext = gctr (aes key) counter (authenticated key aad ciphertext)

-- the tag of 16 bytes, as a function of the ciphertext
unfoldable pub gcm_tag : List ℕ → List ℕ → List ℕ → List ℕ → List ℕ
gcm_tag key iv aad ciphertext = full_tag key (initial_counter key iv) aad ciphertext

-- what sealing gives
pub record Sealed : Type 0 where
  pub ciphertext : List ℕ
  pub tag : List ℕ

-- inc32(J0), from which the text's key stream counts
unfoldable pub text_counter : List ℕ → List ℕ → List ℕ
text_counter key iv = inc32 (initial_counter key iv)

-- authenticated encryption (7.1): the text under its key stream (step 3), and the tag
unfoldable pub gcm_encrypt : List ℕ → List ℕ → List ℕ → List ℕ → Sealed
gcm_encrypt key iv aad text =
    let ciphertext = gctr (aes key) (text_counter key iv) text in
    record { ciphertext = ciphertext; tag = gcm_tag key iv aad ciphertext }

-- the text of a ciphertext (7.2, step 4)
unfoldable pub gcm_text : List ℕ → List ℕ → List ℕ → List ℕ
gcm_text key iv ciphertext = gctr (aes key) (text_counter key iv) ciphertext

-- an IV that the module takes: 1 to 255 bytes, a rule of this project's own
abbrev pub IsIv : List ℕ → Type 0
IsIv iv = (1 ≤ length iv) × (length iv ≤ 255)

-- additional data or text that the module takes: no more than a reply's payload has, a rule of this project's own
abbrev pub IsSealable : List ℕ → Type 0
IsSealable bytes = length bytes ≤ LARGEST_PAYLOAD

-- a tag's length: 12 to 16 bytes (5.2.1.2); the two shorter ones, for some uses alone, aren't taken
abbrev pub IsTagLength : ℕ → Type 0
IsTagLength n = (12 ≤ n) × (n ≤ 16)

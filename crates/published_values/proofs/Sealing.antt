-- GCM with an IV of 96 bits, by whole counter blocks.
use Rattle.std.proofs.Common.{◌≡◌, ℕ, ◌+◌, ◌/◌, ◌==◌, List, [], ◌∷◌, ◌++◌, length, refl, ap, ◌∙◌, arith, if◌then◌else◌}
use Rattle.bits_core.specs.ByteList.{zeros}
use Rattle.aes_spec.specs.Key.{aes}
use Rattle.aes_spec.specs.Gctr.{gctr, inc32}
use Rattle.ghash_core.specs.Block.{block_of, blocks_of, bytes_of, ghash}
use Rattle.gcm_mode.specs.Gcm.{Sealed, hash_subkey, bit_lengths, hashed_iv, initial_counter, authenticated, full_tag, gcm_tag, text_counter, gcm_encrypt}
use Rattle.published_values.proofs.CounterBlocks.{stream_blocks, plus_stream, gctr_by_blocks}

-- the text plus the stream of as many blocks as it begins
unfoldable pub added : (List ℕ → List ℕ) → List ℕ → List ℕ → List ℕ
added enciphered start text = plus_stream text (stream_blocks enciphered start ((length text + 15) / 16))

-- what is hashed under a subkey
unfoldable pub hashed : List ℕ → List ℕ → List ℕ → List ℕ
hashed subkey aad ciphertext = bytes_of (ghash (block_of subkey) ((blocks_of aad ++ blocks_of ciphertext) ++ blocks_of (bit_lengths (length aad) (length ciphertext))))

-- what is sealed, from the ciphertext
unfoldable pub with_tag : (List ℕ → List ℕ) → List ℕ → List ℕ → List ℕ → Sealed
with_tag enciphered counter aad ciphertext = record { ciphertext = ciphertext; tag = added enciphered counter (hashed (enciphered (zeros 16)) aad ciphertext) }

unfoldable pub sealed_by : List ℕ → List ℕ → List ℕ → (List ℕ → List ℕ) → Sealed
sealed_by counter aad text enciphered = with_tag enciphered counter aad (added enciphered (inc32 counter) text)

whole : (enciphered : List ℕ → List ℕ) (start text : List ℕ) → gctr enciphered start text ≡ added enciphered start text
unfolding added
whole enciphered start text = gctr_by_blocks enciphered start text ((length text + 15) / 16) (omega arith)

counter_of : (key iv : List ℕ) → length iv ≡ 12 → initial_counter key iv ≡ iv ++ 0 ∷ 0 ∷ 0 ∷ 1 ∷ []
unfolding initial_counter
counter_of key iv long = ap (λ n. if n == 12 then iv ++ 0 ∷ 0 ∷ 0 ∷ 1 ∷ [] else hashed_iv key iv) long

-- the standard's steps from J0
unfoldable from_counter : List ℕ → List ℕ → List ℕ → List ℕ → Sealed
from_counter key aad text counter = record { ciphertext = gctr (aes key) (inc32 counter) text; tag = full_tag key counter aad (gctr (aes key) (inc32 counter) text) }

encrypts : (key iv aad text : List ℕ) → gcm_encrypt key iv aad text ≡ from_counter key aad text (initial_counter key iv)
unfolding gcm_encrypt gcm_tag text_counter from_counter
encrypts key iv aad text = refl

by_blocks : (key aad text counter : List ℕ) → from_counter key aad text counter ≡ sealed_by counter aad text (aes key)
unfolding from_counter sealed_by with_tag full_tag authenticated hashed hash_subkey
by_blocks key aad text counter =
    let once : List ℕ = added (aes key) (inc32 counter) text in
    ap (λ (c : List ℕ). let made : Sealed = record { ciphertext = c; tag = full_tag key counter aad c } in made) (whole (aes key) (inc32 counter) text)
    ∙ ap (λ (t : List ℕ). let made : Sealed = record { ciphertext = once; tag = t } in made) (whole (aes key) counter (authenticated key aad once))

pub seals : (key iv aad text : List ℕ) → length iv ≡ 12 → gcm_encrypt key iv aad text ≡ sealed_by (iv ++ 0 ∷ 0 ∷ 0 ∷ 1 ∷ []) aad text (aes key)
seals key iv aad text long = encrypts key iv aad text ∙ ap (from_counter key aad text) (counter_of key iv long) ∙ by_blocks key aad text (iv ++ 0 ∷ 0 ∷ 0 ∷ 1 ∷ [])

-- what is sealed, step by step
pub sealed_is : (enciphered : List ℕ → List ℕ) (counter aad text ciphertext subkey sum tag : List ℕ)
    → added enciphered (inc32 counter) text ≡ ciphertext → enciphered (zeros 16) ≡ subkey → hashed subkey aad ciphertext ≡ sum → added enciphered counter sum ≡ tag
    → sealed_by counter aad text enciphered ≡ record { ciphertext = ciphertext; tag = tag }
unfolding sealed_by with_tag
sealed_is enciphered counter aad text ciphertext subkey sum tag of_text of_zeros of_parts of_sum =
    ap (with_tag enciphered counter aad) of_text
    ∙ ap (λ (h : List ℕ). let made : Sealed = record { ciphertext = ciphertext; tag = added enciphered counter (hashed h aad ciphertext) } in made) of_zeros
    ∙ ap (λ (s : List ℕ). let made : Sealed = record { ciphertext = ciphertext; tag = added enciphered counter s } in made) of_parts
    ∙ ap (λ (t : List ℕ). let made : Sealed = record { ciphertext = ciphertext; tag = t } in made) of_sum

-- CMAC with AES (SP 800-38B). Keys, texts and blocks are lists of bytes; a whole block has sixteen.
use Rattle.std.specs.Prelude.{ℕ, zero, suc, ◌+◌, ◌-◌, ◌*◌, ◌/◌, ◌%◌, ◌==◌, Bool, List, [], ◌∷◌, ◌++◌, map, take, drop, length, slice_index, if◌then◌else◌}
use Rattle.std.specs.List.{range_with_len}
use Rattle.bits_core.specs.ByteList.{zeros, zero_padded, xor_bytes}
use Rattle.aes_spec.specs.Key.{aes}

-- a block shifted left by one bit; its first bit is lost (section 4.2)
abbrev pub shifted : List ℕ → List ℕ
shifted block = map (λ i. slice_index block i * 2 % 256 + slice_index block (i + 1) / 128) (range_with_len 0 16)

-- R128, the byte 87 after fifteen zeros, where a block's first bit is one, else zeros (section 5.3)
abbrev pub reduction : List ℕ → List ℕ
reduction block = zeros 15 ++ slice_index block 0 / 128 * 0x87 ∷ []

-- K1 from L, and K2 from K1 (section 6.1, steps 2 and 3)
unfoldable pub doubled : List ℕ → List ℕ
doubled block = xor_bytes (shifted block) (reduction block)

-- K1, from L, the block of zeros enciphered (section 6.1, steps 1 and 2)
unfoldable pub first_subkey : List ℕ → List ℕ
first_subkey key = doubled (aes key (zeros 16))

-- K2 (section 6.1, step 3)
unfoldable pub second_subkey : List ℕ → List ℕ
second_subkey key = doubled (first_subkey key)

-- n - 1, the number of blocks before the last: the empty text has one block, an empty one (section 6.2, step 2)
abbrev pub blocks_before : List ℕ → ℕ
blocks_before text = (length text - 1) / 16

-- block i + 1 of the text (section 6.2, step 3)
abbrev pub text_block : List ℕ → ℕ → List ℕ
text_block text i = take 16 (drop (16 * i) text)

-- the last block of the text, of at most sixteen bytes (section 6.2, step 3)
abbrev pub last_block : List ℕ → List ℕ
last_block text = drop (16 * blocks_before text) text

-- the last block is whole
abbrev pub is_whole : List ℕ → Bool
is_whole text = length (last_block text) == 16

-- the last block filled up: a whole one stays, after another stand one bit 1 and zeros (section 6.2, step 4)
unfoldable pub padded_block : List ℕ → List ℕ
padded_block text = if is_whole text then last_block text else zero_padded 16 (last_block text ++ 0x80 ∷ [])

-- the subkey that is added to the last block (section 6.2, step 4)
unfoldable pub subkey_for : List ℕ → List ℕ → List ℕ
subkey_for key text = if is_whole text then first_subkey key else second_subkey key

-- C(i), where the first i blocks are whole and not the last (section 6.2, steps 5 and 6)
unfoldable pub chain : List ℕ → List ℕ → ℕ → List ℕ
chain key text zero = zeros 16
chain key text (suc i) = aes key (xor_bytes (chain key text i) (text_block text i))

-- C(n), from the last block with its subkey (section 6.2, steps 4 to 7)
unfoldable pub cmac : List ℕ → List ℕ → List ℕ
cmac key text = aes key (xor_bytes (chain key text (blocks_before text)) (xor_bytes (padded_block text) (subkey_for key text)))

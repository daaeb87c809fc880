-- Counter mode as GCM uses it (SP 800-38D, sections 6.2 and 6.5).
use Rattle.std.specs.Prelude.{ℕ, zero, suc, ◌+◌, ◌/◌, ◌%◌, ◌^◌, List, ◌++◌, map, length, bit_xor, slice_index}
use Rattle.std.specs.List.{range_with_len}
use Rattle.std.specs.Int.{w32, from_be_bytes, to_be_bytes}

-- inc32: one more in the last 32 bits, modulo 2^32 (section 6.2)
abbrev pub inc32 : List ℕ → List ℕ
inc32 b =
    map (slice_index b) (range_with_len 0 12)
    ++ to_be_bytes w32 ((from_be_bytes w32 (map (slice_index b) (range_with_len 12 4)) + 1) % 2 ^ 32)

-- counter block i, counted from 0: inc32 applied i times to the start
unfoldable pub counter_block : List ℕ → ℕ → List ℕ
counter_block start zero = start
counter_block start (suc i) = inc32 (counter_block start i)

-- byte p of the key stream: the counter blocks enciphered, one after another
unfoldable pub stream_byte : (List ℕ → List ℕ) → List ℕ → ℕ → ℕ
stream_byte enciphered start p = slice_index (enciphered (counter_block start (p / 16))) (p % 16)

-- GCTR: each byte of the text plus that of the key stream (section 6.5)
unfoldable pub gctr : (List ℕ → List ℕ) → List ℕ → List ℕ → List ℕ
gctr enciphered start text = map (λ p. bit_xor (slice_index text p) (stream_byte enciphered start p)) (range_with_len 0 (length text))

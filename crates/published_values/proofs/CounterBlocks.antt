-- Counter mode where each counter block is enciphered once and not for each byte.
use Rattle.std.proofs.Common.{◌≡◌, ℕ, ◌*◌, ◌/◌, ◌%◌, ◌<◌, ◌≤◌, List, [], length, map, sym, ap, ◌∙◌, arith, bit_xor, slice_index, slice_index_or}
use Rattle.std.specs.List.{range_with_len}
use Rattle.std.proofs.lemmas.Grind.{same_number_lists}
use Rattle.std.proofs.lemmas.List.FromFn.{get_or-map-range_with_len, length-map-range_with_len}
use Rattle.aes_spec.specs.Gctr.{counter_block, stream_byte, gctr}
use Rattle.aes_spec.proofs.KeyStream.{length-gctr, get_or-gctr}

-- the first n counter blocks enciphered
abbrev pub stream_blocks : (List ℕ → List ℕ) → List ℕ → ℕ → List (List ℕ)
stream_blocks enciphered start n = map (λ i. enciphered (counter_block start i)) (range_with_len 0 n)

-- the text plus the blocks of the stream
unfoldable pub plus_stream : List ℕ → List (List ℕ) → List ℕ
plus_stream text blocks = map (λ p. bit_xor (slice_index text p) (slice_index (slice_index_or blocks (p / 16) []) (p % 16))) (range_with_len 0 (length text))

pub gctr_by_blocks : (enciphered : List ℕ → List ℕ) (start text : List ℕ) (n : ℕ) → length text ≤ 16 * n
    → gctr enciphered start text ≡ plus_stream text (stream_blocks enciphered start n)
unfolding plus_stream stream_byte
gctr_by_blocks enciphered start text n enough =
    let blocks : List (List ℕ) = stream_blocks enciphered start n in
    let cell : ℕ → ℕ = λ p. bit_xor (slice_index text p) (slice_index (slice_index_or blocks (p / 16) []) (p % 16)) in
    same_number_lists (gctr enciphered start text) (map cell (range_with_len 0 (length text)))
    (length-gctr enciphered start text ∙ sym (length-map-range_with_len cell 0 (length text)))
    (λ p h.
    let within : p < length text = omega (arith, length-gctr enciphered start text) in
    get_or-gctr enciphered start text p within
    ∙ ap (λ (b : List ℕ). bit_xor (slice_index text p) (slice_index b (p % 16)))
    (sym (get_or-map-range_with_len (λ i. enciphered (counter_block start i)) 0 n (p / 16) (p / 16) [] (omega arith) (omega arith)))
    ∙ sym (get_or-map-range_with_len cell 0 (length text) p p 0 within (omega arith)))

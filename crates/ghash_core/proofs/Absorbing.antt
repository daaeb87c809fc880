-- What the absorb calls leave, in the standard's terms.
use Rattle.ghash_core.specs.Block.{bits, block_of, bytes_of, plus, product, power, ghash, absorbed, first_blocks, blocks_in, blocks_of}
use Rattle.ghash_core.specs.Number.{horner, number_of, numbers}
use Rattle.ghash_core.proofs.BlockBytes.{bytes_of-number}
use Rattle.ghash_core.proofs.Sums.{horner_bits, number_bits, number-lt, length-numbers, length-first_blocks, first_blocks-numbers}
use Rattle.std.proofs.Common.{◌≡◌, ℕ, ◌<◌, Bool, List, length, get_or, map, sym, ap, ◌∙◌}
use Rattle.std.specs.Int.{bytes_high_first}

-- the running value after the blocks of bytes, as the bytes of a number
pub absorbs : (h acc bytes out : List ℕ) (end : ℕ) → length h ≡ 16 → ((i : ℕ) → get_or h i 0 < 256) → length acc ≡ 16 → ((i : ℕ) → get_or acc i 0 < 256) → ((i : ℕ) → get_or bytes i 0 < 256) →
    end ≡ horner (number_of h) (number_of acc) (numbers (blocks_in (length bytes)) bytes) → out ≡ bytes_high_first 16 end →
    out ≡ bytes_of (absorbed (block_of h) (block_of acc) (blocks_of bytes))
unfolding absorbed blocks_of
absorbs h acc bytes out end hs hf accs accf bf e o =
    let m = blocks_in (length bytes) in
    let xs = numbers m bytes in
    let hb : bits 128 (number_of h) ≡ block_of h = number_bits h hs hf in
    let ab : bits 128 (number_of acc) ≡ block_of acc = number_bits acc accs accf in
    o ∙ sym (bytes_of-number end)
    ∙ ap bytes_of (ap (bits 128) e
    ∙ horner_bits (number_of h) (number_of acc) xs (number-lt h hs hf) (number-lt acc accs accf)
    ∙ ap (λ (n : ℕ). plus (product (bits 128 (number_of acc)) (power (bits 128 (number_of h)) n)) (ghash (bits 128 (number_of h)) (map (bits 128) xs))) (length-numbers m bytes ∙ sym (length-first_blocks m bytes))
    ∙ ap (λ (b : List (List Bool)). plus (product (bits 128 (number_of acc)) (power (bits 128 (number_of h)) (length (first_blocks m bytes)))) (ghash (bits 128 (number_of h)) b)) (first_blocks-numbers m bytes bf)
    ∙ ap (λ (a : List Bool). plus (product a (power (bits 128 (number_of h)) (length (first_blocks m bytes)))) (ghash (bits 128 (number_of h)) (first_blocks m bytes))) ab
    ∙ ap (λ (k : List Bool). plus (product (block_of acc) (power k (length (first_blocks m bytes)))) (ghash k (first_blocks m bytes))) hb)

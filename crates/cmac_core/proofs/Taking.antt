-- What a stream holds after one byte more.
use Rattle.bits_core.specs.ByteList.{zero_padded, xor_bytes}
use Rattle.aes_spec.specs.Key.{aes}
use Rattle.cmac_core.specs.Cmac.{blocks_before, chain, last_block, text_block}
use Rattle.cmac_core.specs.Streams.{HoldsText}
use Rattle.cmac_core.proofs.BlockSums.{xor_bytes-zeros, xor_push, zero_padded-whole}
use Rattle.cmac_core.proofs.Blocks.{chain-append, last_fits, length-aes, length-chain, text_block-append}
use Rattle.std.proofs.Common.{◌≡◌, ℕ, suc, ◌+◌, ◌*◌, ◌<◌, ◌≤◌, List, [], ◌∷◌, ◌++◌, length, drop, get_or, bit_xor, slice_set, sym, ap, ap₂, ◌∙◌, arith}
use Rattle.std.proofs.lemmas.List.{length-drop, length_push, drop-append-le, drop_at, take_all}

-- a byte more in a block that isn't full
pub taken_short : (block : List ℕ) (used : ℕ) (key text : List ℕ) (b : ℕ)
    → HoldsText (record { block = block; used = used }) key text → used < 16
    → HoldsText (record { block = slice_set block used (bit_xor (get_or block used 0) b); used = used + 1 }) key (text ++ b ∷ [])
taken_short block used key text b held room =
    let q : ℕ = blocks_before text in
    let more : List ℕ = text ++ b ∷ [] in
    let last : List ℕ = last_block text in
    let count : used ≡ length last = held.count in
    let same : blocks_before more ≡ q = omega (arith, length_push text b, length-drop (16 * q) text) in
    let last_is : last_block more ≡ last ++ b ∷ [] = ap (λ (n : ℕ). drop (16 * n) more) same ∙ drop-append-le (16 * q) text (b ∷ []) (omega arith) in
    let chain_is : chain key more (blocks_before more) ≡ chain key text q = ap (chain key more) same ∙ chain-append key text (b ∷ []) q (omega arith) in
    record {
      count = ap (λ (n : ℕ). n + 1) count ∙ sym (length_push last b) ∙ ap length (sym last_is);
      sum =
          ap₂ (λ (x : List ℕ) (n : ℕ). slice_set x n (bit_xor (get_or x n 0) b)) held.sum count
          ∙ xor_push (chain key text q) last b (length-chain key text q) (omega arith)
          ∙ ap₂ (λ (c l : List ℕ). xor_bytes c (zero_padded 16 l)) (sym chain_is) (sym last_is);
    }

-- a byte more after a full block, which is enciphered
pub taken_full : (block enciphered : List ℕ) (used : ℕ) (key text : List ℕ) (b : ℕ)
    → HoldsText (record { block = block; used = used }) key text → 16 ≤ used → enciphered ≡ aes key block
    → HoldsText (record { block = slice_set enciphered 0 (bit_xor (get_or enciphered 0 0) b); used = 1 }) key (text ++ b ∷ [])
unfolding chain
taken_full block enciphered used key text b held full is =
    let q : ℕ = blocks_before text in
    let more : List ℕ = text ++ b ∷ [] in
    let last : List ℕ = last_block text in
    let count : used ≡ length last = held.count in
    let long : length last ≡ 16 = omega (arith, last_fits text) in
    let size : length text ≡ 16 * q + 16 = omega (arith, length-drop (16 * q) text) in
    let next : blocks_before more ≡ suc q = omega (arith, length_push text b) in
    let last_is : last_block more ≡ b ∷ [] = ap (λ (n : ℕ). drop (16 * n) more) next ∙ drop_at text (b ∷ []) (16 * suc q) (omega arith) in
    let block_is : zero_padded 16 last ≡ text_block more q =
    zero_padded-whole 16 last long ∙ sym (take_all 16 last (omega arith)) ∙ sym (text_block-append text (b ∷ []) q (omega arith)) in
    let chain_is : chain key more (blocks_before more) ≡ enciphered =
    ap (chain key more) next
    ∙ ap₂ (λ (c l : List ℕ). aes key (xor_bytes c l)) (chain-append key text (b ∷ []) q (omega arith)) (sym block_is)
    ∙ ap (aes key) (sym held.sum)
    ∙ sym is in
    let wide : length enciphered ≡ 16 = ap length is ∙ length-aes key block in
    record {
      count = sym (ap length last_is);
      sum =
          ap (λ (x : List ℕ). slice_set x 0 (bit_xor (get_or x 0 0) b)) (sym (xor_bytes-zeros 16 enciphered wide))
          ∙ xor_push enciphered [] b wide (omega arith)
          ∙ ap₂ (λ (c l : List ℕ). xor_bytes c (zero_padded 16 l)) (sym chain_is) (sym last_is);
    }

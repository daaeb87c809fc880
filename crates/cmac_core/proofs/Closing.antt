-- The last block of a text, enciphered with what fills it up and its subkey.
use Rattle.bits_core.specs.ByteList.{zero_padded, xor_bytes}
use Rattle.aes_spec.specs.Key.{aes}
use Rattle.cmac_core.specs.Cmac.{blocks_before, chain, cmac, first_subkey, is_whole, last_block, padded_block, second_subkey, subkey_for}
use Rattle.cmac_core.specs.Streams.{HoldsText}
use Rattle.cmac_core.proofs.BlockSums.{xor_bytes-assoc, xor_push, zero_padded-whole}
use Rattle.cmac_core.proofs.Blocks.{last_fits, length-chain}
use Rattle.std.proofs.Common.{◌≡◌, ℕ, ◌<◌, ◌≤◌, Bool, true, false, cond, List, [], ◌∷◌, ◌++◌, length, get_or, bit_xor, slice_set, sym, ap, ap₂, ◌∙◌, arith}
use Rattle.std.proofs.lemmas.Bool.{eq-eqb, ne_eqb}

pub padded_whole : (text : List ℕ) → is_whole text ≡ true → padded_block text ≡ last_block text
unfolding padded_block
padded_whole text whole = ap (λ (b : Bool). cond b (last_block text) (zero_padded 16 (last_block text ++ 0x80 ∷ []))) whole

pub padded_short : (text : List ℕ) → is_whole text ≡ false → padded_block text ≡ zero_padded 16 (last_block text ++ 0x80 ∷ [])
unfolding padded_block
padded_short text short = ap (λ (b : Bool). cond b (last_block text) (zero_padded 16 (last_block text ++ 0x80 ∷ []))) short

-- the sum with the padded block and the subkey
closed : (sum key text padded subkey : List ℕ) → sum ≡ xor_bytes (chain key text (blocks_before text)) padded
    → padded ≡ padded_block text → subkey ≡ subkey_for key text → aes key (xor_bytes sum subkey) ≡ cmac key text
unfolding cmac
closed sum key text padded subkey is filled chosen =
    let c : List ℕ = chain key text (blocks_before text) in
    ap (λ (s : List ℕ). aes key (xor_bytes s subkey)) is
    ∙ ap (aes key) (xor_bytes-assoc c padded subkey)
    ∙ ap₂ (λ (p k : List ℕ). aes key (xor_bytes c (xor_bytes p k))) filled chosen

pub closed_whole : (block : List ℕ) (used : ℕ) (key text subkey : List ℕ)
    → HoldsText (record { block = block; used = used }) key text → 16 ≤ used → subkey ≡ first_subkey key
    → aes key (xor_bytes block subkey) ≡ cmac key text
unfolding subkey_for
closed_whole block used key text subkey held full is =
    let last : List ℕ = last_block text in
    let count : used ≡ length last = held.count in
    let long : length last ≡ 16 = omega (arith, last_fits text) in
    let whole : is_whole text ≡ true = eq-eqb (length last) 16 long in
    closed block key text (zero_padded 16 last) subkey held.sum (zero_padded-whole 16 last long ∙ sym (padded_whole text whole)) (is ∙ sym (ap (λ (b : Bool). cond b (first_subkey key) (second_subkey key)) whole))

pub closed_short : (block : List ℕ) (used : ℕ) (key text subkey : List ℕ)
    → HoldsText (record { block = block; used = used }) key text → used < 16 → subkey ≡ second_subkey key
    → aes key (xor_bytes (slice_set block used (bit_xor (get_or block used 0) 0x80)) subkey) ≡ cmac key text
unfolding subkey_for
closed_short block used key text subkey held room is =
    let last : List ℕ = last_block text in
    let count : used ≡ length last = held.count in
    let short : is_whole text ≡ false = ne_eqb (length last) 16 (λ long. omega arith) in
    let sum_is = ap₂ (λ (x : List ℕ) (n : ℕ). slice_set x n (bit_xor (get_or x n 0) 0x80)) held.sum count
    ∙ xor_push (chain key text (blocks_before text)) last 0x80 (length-chain key text (blocks_before text)) (omega arith) in
    closed (slice_set block used (bit_xor (get_or block used 0) 0x80)) key text (zero_padded 16 (last ++ 0x80 ∷ [])) subkey sum_is (sym (padded_short text short)) (is ∙ sym (ap (λ (b : Bool). cond b (first_subkey key) (second_subkey key)) short))

-- The blocks of a derivation.
use Rattle.bits_core.specs.declared.algorithm.Alg.TheVariants.{Sha256}
use Rattle.hmac_core.proofs.Lengths.{length-hmac}
use Rattle.hmac_core.proofs.Blocks.{IsInBlocksOf32, length-joined}
use Rattle.hmac_core.specs.Blocks.{joined}
use Rattle.kbkdf_core.specs.CounterMode.{fixed_input, kbkdf_counter, key_block}
use Rattle.std.proofs.Common.{◌≡◌, ℕ, ◌+◌, ◌/◌, ◌%◌, ◌<◌, List, [], ◌∷◌, ◌++◌, ◌*◌, length, append_assoc, ap, ◌∙◌, arith}
use Rattle.std.proofs.lemmas.List.{length-take}

-- each has 32 bytes
pub blocks_of_32 : (key fixed : List ℕ) → IsInBlocksOf32 (key_block key fixed)
unfolding key_block
blocks_of_32 key fixed = record { size = λ n. length-hmac Sha256 key _ }

-- the pieces in their order are the counter and the fixed input
pub pieces_joined : (counter label context bits : List ℕ) → counter ++ label ++ 0 ∷ [] ++ context ++ bits ≡ counter ++ (label ++ 0 ∷ context ++ bits)
pieces_joined counter label context bits = simp append_assoc

-- past a block's first byte the block is that of the byte before
pub block_stays : (block : ℕ → List ℕ) (old : List ℕ) (i : ℕ) → (i % 32 ≡ 0 → ⊥) → (0 < i → old ≡ block ((i + 31) / 32)) → old ≡ block (i / 32 + 1)
block_stays block old i h d = d (omega (arith, h)) ∙ ap block (let q : (i + 31) / 32 ≡ i / 32 + 1 = omega (arith, h) in q)

-- as many bytes as were asked for
pub length-kbkdf_counter : (key label context : List ℕ) (n : ℕ) → length (kbkdf_counter key label context n) ≡ n
unfolding kbkdf_counter
length-kbkdf_counter key label context n =
    let fixed = fixed_input label context (8 * n) in
    let blocks = (n + 31) / 32 in
    length-take n (joined (key_block key fixed) blocks) ∙ omega (arith, length-joined (key_block key fixed) (blocks_of_32 key fixed) blocks)

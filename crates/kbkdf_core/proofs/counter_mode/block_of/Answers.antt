use Rattle.std.proofs.Common.{ℕ, List, [], ◌∷◌, ◌++◌, ap, ◌∙◌, sym, subst}
use Rattle.std.specs.Int.{w32, to_be_bytes}
use Rattle.bits_core.specs.declared.algorithm.Alg.TheVariants.{Sha256}
use Rattle.hmac_core.specs.Hmac.{HoldsText, hmac}
use Rattle.hmac_core.specs.declared.mac.MacStream.{MacStream}
use Rattle.hmac_core.proofs.Lengths.{take-hmac256}
use Rattle.kbkdf_core.specs.CounterMode.{key_block}
use Rattle.kbkdf_core.proofs.KeyBlocks.{pieces_joined}
use Rattle.kbkdf_core.proofs.counter_mode.block_of.Goals as goal

pub returns : goal.returns
unfolding key_block
returns c key held =
    let same = rw c.unwrap-stream.ensures at c.clone.ensures.cases in
    let copied = subst (λ (s : MacStream). HoldsText s Sha256 key []) (sym same) held in
    let counter = c.to_be_bytes.result in
    let label = c.args.label.now in
    let context = c.args.context.now in
    let bits = c.to_be_bytes-2.result in
    let text : List ℕ = counter ++ label ++ 0 ∷ [] ++ context ++ bits in
    let taken = c.update-5.ensures Sha256 key _ (c.update-4.ensures Sha256 key _ (c.update-3.ensures Sha256 key _ (c.update-2.ensures Sha256 key _ (c.update.ensures Sha256 key [] copied)))) in
    c.finish_leftmost.ensures Sha256 key text taken
    ∙ take-hmac256 key text
    ∙ ap (hmac Sha256 key) (pieces_joined counter label context bits)
    ∙ ap (λ (b : List ℕ). hmac Sha256 key (b ++ (label ++ 0 ∷ context ++ bits))) c.to_be_bytes.ensures
    ∙ ap (λ (b : List ℕ). hmac Sha256 key (to_be_bytes w32 c.args.counter ++ (label ++ 0 ∷ context ++ b))) c.to_be_bytes-2.ensures

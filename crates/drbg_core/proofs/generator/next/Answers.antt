use Rattle.std.proofs.Common.{[], ◌∙◌, sym, subst}
use Rattle.bits_core.specs.declared.algorithm.Alg.TheVariants.{Sha256}
use Rattle.hmac_core.specs.Hmac.{HoldsText}
use Rattle.hmac_core.specs.declared.mac.MacStream.{MacStream}
use Rattle.hmac_core.proofs.Lengths.{take-hmac256}
use Rattle.drbg_core.proofs.generator.next.Goals as goal

pub returns : goal.returns
returns c key held =
    let same = rw c.unwrap-stream.ensures at c.clone.ensures.cases in
    let copied = subst (λ (s : MacStream). HoldsText s Sha256 key []) (sym same) held in
    c.finish_leftmost.ensures Sha256 key c.args.v.now (c.update.ensures Sha256 key [] copied) ∙ take-hmac256 key c.args.v.now

use Rattle.std.proofs.Common.{ap, ◌∙◌, arith}
use Rattle.aes_spec.specs.Key.{aes}
use Rattle.cmac_core.proofs.Closing.{closed_short, closed_whole}
use Rattle.cmac_core.proofs.stream.CmacStream.finish.Goals as goal
use Rattle.cmac_core.proofs.stream.CmacStream.finish.Goals.{then-used-ge-BLOCK, else-used-ge-BLOCK}

pub returns : goal.returns
returns c key text is held =
    let block = c.args.self.block in
    let used = c.args.self.used in
    c.encrypt.ensures key is
    ∙ elim c.if-used-ge-BLOCK.branch [
      | then-used-ge-BLOCK w ↦
          ap (aes key) (w.out-is ∙ w.xor_into.ensures) ∙ closed_whole block used key text c.subkeys.new.first held (omega arith) (c.subkeys.ensures.first key is)
      | else-used-ge-BLOCK w ↦
          ap (aes key) (w.out-is ∙ w.xor_into-else-used-ge-BLOCK.ensures) ∙ closed_short block used key text c.subkeys.new.second held (omega arith) (c.subkeys.ensures.second key is)
    ]

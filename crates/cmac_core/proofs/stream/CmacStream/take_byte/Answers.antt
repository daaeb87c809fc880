use Rattle.std.proofs.Common.{◌∷◌, ◌+◌, ◌++◌, [], sym, subst, get_or, bit_xor, slice_set, arith}
use Rattle.cmac_core.specs.Streams.{HoldsText}
use Rattle.cmac_core.specs.declared.stream.CmacStream.{CmacStream}
use Rattle.cmac_core.proofs.Taking.{taken_short, taken_full}
use Rattle.cmac_core.proofs.stream.CmacStream.take_byte.Goals as goal
use Rattle.cmac_core.proofs.stream.CmacStream.take_byte.Goals.{then-self-ge-BLOCK, else-self-ge-BLOCK}

pub returns : goal.returns
returns c key text is held =
    let byte = c.args.byte in
    let block = c.args.self.now.block in
    let used = c.args.self.now.used in
    let taken : CmacStream → CmacStream = λ s. record { block = slice_set s.block s.used (bit_xor (get_or s.block s.used 0) byte); used = s.used + 1 } in
    elim c.if-self-ge-BLOCK.branch [
      | then-self-ge-BLOCK w ↦
          subst (λ (s : CmacStream). HoldsText (taken s) key (text ++ byte ∷ [])) (sym w.self-is) (taken_full block w.encrypt.new.block used key text byte held (omega arith) (w.encrypt.ensures key is))
      | else-self-ge-BLOCK w ↦
          subst (λ (s : CmacStream). HoldsText (taken s) key (text ++ byte ∷ [])) (sym w.self-is) (taken_short block used key text byte held (omega arith))
    ]

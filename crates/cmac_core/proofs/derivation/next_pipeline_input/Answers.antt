use Rattle.std.proofs.Common.{◌≡◌, [], sym, subst, ap, ◌∙◌, arith}
use Rattle.kbkdf_core.specs.CounterMode.{fixed_input}
use Rattle.cmac_core.specs.Cmac.{cmac}
use Rattle.cmac_core.specs.Streams.{HoldsText}
use Rattle.cmac_core.specs.Derivation.{pipeline_input}
use Rattle.cmac_core.specs.declared.stream.CmacStream.{CmacStream}
use Rattle.cmac_core.proofs.KeyBlocks.{pipeline_step}
use Rattle.cmac_core.proofs.derivation.next_pipeline_input.Goals as goal
use Rattle.cmac_core.proofs.derivation.next_pipeline_input.Goals.{then-counter-eq1, else-counter-eq1}

pub returns : goal.returns
unfolding pipeline_input
returns c key is held =
    let i = c.args.counter in
    let fixed = fixed_input c.args.input.now.label.now c.args.input.now.context.now c.args.input.now.bits in
    let prefix = c.args.prefix.now in
    elim c.if-counter-eq1.branch [
      | then-counter-eq1 w ↦
          let taken : HoldsText c.if-counter-eq1.stream key fixed =
          subst (λ (s : CmacStream). HoldsText s key fixed) (sym w.stream-is) (w.feed.ensures key [] is (c.new-stream.ensures key)) in
          let one : i ≡ 1 = omega arith in
          c.finish.ensures key fixed is taken ∙ ap (pipeline_input key fixed) (sym one)
      | else-counter-eq1 w ↦
          let taken : HoldsText c.if-counter-eq1.stream key prefix =
          subst (λ (s : CmacStream). HoldsText s key prefix) (sym w.stream-is) (w.update.ensures key [] is (c.new-stream.ensures key)) in
          c.finish.ensures key prefix is taken ∙ ap (cmac key) (held (omega arith)) ∙ sym (pipeline_step key fixed i (omega arith))
    ]

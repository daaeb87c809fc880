use Rattle.std.proofs.Common.{◌≡◌, ℕ, List, ◌++◌, sym, subst, ap, ◌∙◌, arith}
use Rattle.std.specs.Int.{w32, to_be_bytes}
use Rattle.kbkdf_core.specs.CounterMode.{fixed_input}
use Rattle.cmac_core.specs.Cmac.{cmac}
use Rattle.cmac_core.specs.Derivation.{key_block}
use Rattle.cmac_core.specs.Steps.{IsAfterBlocks}
use Rattle.cmac_core.proofs.KeyBlocks.{block_is}
use Rattle.cmac_core.proofs.derivation.next_block.Goals as goal

pub returns : goal.returns
returns c key is held =
    let i = c.args.counter in
    let mode = c.args.mode in
    let fixed = fixed_input c.args.input.now.label.now c.args.input.now.context.now c.args.input.now.bits in
    let prepared = c.set_prefix-held.ensures.before key is held in
    let now : c.block_after.new.out ≡ key_block mode key fixed i =
    c.block_after.ensures key is
    ∙ ap (λ (before : List ℕ). cmac key (before ++ to_be_bytes w32 i ++ fixed)) prepared.0
    ∙ sym (block_is mode key fixed i (omega arith)) in
    (now, subst (λ (b : List ℕ). IsAfterBlocks mode key fixed i b c.set_prefix-held.new.prefix) (sym now) prepared.1)

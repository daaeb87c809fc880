use Rattle.std.proofs.Common.{◌≡◌, [], ◌-◌, take, refl, sym, subst, ap, ◌∙◌, arith}
use Rattle.std.proofs.lemmas.List.{take_all}
use Rattle.kbkdf_core.specs.CounterMode.{fixed_input}
use Rattle.cmac_core.specs.Derivation.{feedback_block, key_block, pipeline_input}
use Rattle.cmac_core.specs.Steps.{IsAfterBlocks, before_counter}
use Rattle.cmac_core.specs.declared.derivation.Mode.{Mode}
use Rattle.cmac_core.proofs.derivation.set_prefix.Goals as goal

pub returns-then-counter-eq1-clause-before : goal.returns-then-counter-eq1-clause-before
unfolding feedback_block
returns-then-counter-eq1-clause-before c key is held =
    let i = c.args.counter in
    let fixed = fixed_input c.args.input.now.label.now c.args.input.now.context.now c.args.input.now.bits in
    let none : 0 ≡ i - 1 = omega arith in
    subst (λ (m : Mode). ([] ≡ before_counter m key fixed i) × IsAfterBlocks m key fixed i (key_block m key fixed i) c.args.block.now) (sym c.in-Feedback.is) (ap (feedback_block key fixed) none, λ h. refl)

pub returns-in-Pipeline-clause-before : goal.returns-in-Pipeline-clause-before
returns-in-Pipeline-clause-before c key is held =
    let i = c.args.counter in
    let fixed = fixed_input c.args.input.now.label.now c.args.input.now.context.now c.args.input.now.bits in
    let new = c.next_pipeline_input.new.prefix in
    let P : Mode → Type 0 = λ m. IsAfterBlocks m key fixed (i - 1) c.args.block.now c.args.prefix.now
    → (take 16 new ≡ before_counter m key fixed i) × IsAfterBlocks m key fixed i (key_block m key fixed i) new in
    subst P (sym c.in-Pipeline.is) (λ old.
    let now : new ≡ pipeline_input key fixed i = c.next_pipeline_input.ensures key is (λ more. old (omega arith)) in
    (take_all 16 new (omega arith) ∙ now, λ h. now)) held

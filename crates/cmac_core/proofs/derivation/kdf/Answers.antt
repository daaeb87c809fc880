use Rattle.std.proofs.Common.{◌≡◌, ℕ, List, ◌+◌, ◌-◌, ◌*◌, ◌/◌, ◌++◌, suc, length, take, subst, sym, ap, ap₂, ◌∙◌, arith, add-one}
use Rattle.std.proofs.lemmas.List.{take_all}
use Rattle.aes_core.specs.Schedules.{IsExpanded}
use Rattle.hmac_core.specs.Blocks.{joined}
use Rattle.kbkdf_core.specs.CounterMode.{fixed_input}
use Rattle.cmac_core.specs.Derivation.{cmac_kdf, key_block}
use Rattle.cmac_core.specs.Steps.{IsAfterBlocks}
use Rattle.cmac_core.proofs.KeyBlocks.{after_none, length-key_block, none_yet, one_more}
use Rattle.cmac_core.proofs.derivation.kdf.Goals as goal

pub loop-done-init : goal.loop-done-init
loop-done-init c = record { after = λ key is. after_none c.args.mode key _ _ _; front = λ key is. none_yet _ (length c.args.out.now) }

pub loop-done-preserved : goal.loop-done-preserved
loop-done-preserved c =
    let mode = c.args.mode in
    let total = length c.args.out.now in
    let n = c.loop-done.done in
    let fixed = fixed_input c.args.label.now c.args.context.now (8 * total) in
    let back : n ≡ n + 1 - 1 = omega arith in
    let held : (key : List ℕ) → IsExpanded c.args.schedule.now key → IsAfterBlocks mode key fixed (n + 1 - 1) c.loop-done.block c.loop-done.prefix =
    λ key is. subst (λ (m : ℕ). IsAfterBlocks mode key fixed m c.loop-done.block c.loop-done.prefix) back (c.loop-done.invariant.after key is) in
    record {
      after = λ key is. (c.next_block.ensures key is (held key is)).1;
      front = λ key is.
          let f : ℕ → List ℕ = key_block mode key fixed in
          let out = c.loop-done.out in
          let new = c.put_block.new.out in
          let now : c.next_block.new.block ≡ f (suc n) = (c.next_block.ensures key is (held key is)).0 ∙ ap f (add-one n) in
          let room : length out - 16 * n ≡ total - 16 * n = omega arith in
          let written : take (16 * n + 16) new ≡ take (16 * n) out ++ take (total - 16 * n) (f (suc n)) =
          c.put_block.ensures ∙ ap₂ (λ (m : ℕ) (b : List ℕ). take (16 * n) out ++ take m b) room now in
          let more = one_more 16 f (length-key_block mode key fixed) n total out new (omega arith) (c.loop-done.invariant.front key is) written in
          subst (λ (m : ℕ). take (16 * m) new ≡ take total (joined f m)) (sym (add-one n)) more;
    }

pub returns : goal.returns
unfolding cmac_kdf
returns c key is =
    let total = length c.args.out.now in
    let f : ℕ → List ℕ = key_block c.args.mode key (fixed_input c.args.label.now c.args.context.now (8 * total)) in
    let count : c.loop-done.done ≡ (total + 15) / 16 = omega arith in
    sym (take_all (16 * c.loop-done.done) c.loop-done.out (omega arith)) ∙ c.loop-done.invariant.front key is ∙ ap (λ (n : ℕ). take total (joined f n)) count

use Rattle.std.proofs.Common.{◌≡◌, ℕ, List, ◌+◌, ◌*◌, ◌/◌, ◌%◌, get_or, length, ap, ◌∙◌, arith}
use Rattle.hmac_core.proofs.Blocks.{filled, byte_more}
use Rattle.kbkdf_core.specs.CounterMode.{fixed_input, kbkdf_counter, key_block}
use Rattle.kbkdf_core.proofs.KeyBlocks.{blocks_of_32, block_stays}
use Rattle.kbkdf_core.proofs.counter_mode.derive.Goals as goal
use Rattle.kbkdf_core.proofs.counter_mode.derive.Goals.{then-i-eq0, else-i-eq0}

pub loop-i-init : goal.loop-i-init
loop-i-init c = record { state = λ h. absurd (omega arith); so_far = λ m h. absurd (omega arith) }

pub loop-i-preserved : goal.loop-i-preserved
loop-i-preserved c =
    let key = c.args.key.now in
    let fixed = fixed_input c.args.label.now c.args.context.now (8 * length c.args.out.now) in
    let f : ℕ → List ℕ = key_block key fixed in
    let i = c.loop-i.i in
    let now : c.if-i-eq0.block ≡ f (i / 32 + 1) = elim c.if-i-eq0.branch [
      | then-i-eq0 w ↦ w.block-is ∙ w.block_of-block.ensures key c.new-keyed.ensures
      | else-i-eq0 w ↦ w.block-is ∙ block_stays f c.loop-i.block i w.if-i-eq0.false c.loop-i.invariant.state
    ] in
    record {
      state = λ h. now ∙ ap f (let q : i / 32 + 1 ≡ (i + 1 + 31) / 32 = omega arith in q);
      so_far = byte_more c.loop-i.out (λ (m : ℕ). get_or (f (m / 32 + 1)) (m % 32) 0) i _ (omega arith) (ap (λ (x : List ℕ). get_or x (i % 32) 0) now) c.loop-i.invariant.so_far;
    }

pub returns : goal.returns
unfolding kbkdf_counter
returns c =
    let key = c.args.key.now in
    let n = length c.args.out.now in
    let fixed = fixed_input c.args.label.now c.args.context.now (8 * n) in
    filled (key_block key fixed) (blocks_of_32 key fixed) c.loop-i.out n (omega arith) (λ m h. c.loop-i.invariant.so_far m (omega arith))

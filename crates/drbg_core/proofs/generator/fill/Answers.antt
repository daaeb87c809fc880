use Rattle.std.proofs.Common.{◌≡◌, ℕ, List, ◌+◌, ◌/◌, ◌%◌, get_or, length, ap, ◌∙◌, refl, arith}
use Rattle.drbg_core.specs.Generator.{value_after}
use Rattle.hmac_core.proofs.Blocks.{filled, byte_more}
use Rattle.drbg_core.proofs.Requests.{values_of_32, value_then, value_else}
use Rattle.drbg_core.proofs.generator.fill.Goals as goal
use Rattle.drbg_core.proofs.generator.fill.Goals.{then-i-eq0, else-i-eq0}

pub loop-i-init : goal.loop-i-init
unfolding value_after
loop-i-init c = record { state = refl; so_far = λ m h. absurd (omega arith) }

pub loop-i-preserved : goal.loop-i-preserved
loop-i-preserved c =
    let k = c.args.k.now in
    let v = c.args.v.now in
    let i = c.loop-i.i in
    let now : c.if-i-eq0.v ≡ value_after k v (i / 32 + 1) = elim c.if-i-eq0.branch [
      | then-i-eq0 w ↦ value_then k v c.loop-i.v c.if-i-eq0.v i w.if-i-eq0.true c.loop-i.invariant.state (w.v-is ∙ w.next.ensures k c.new-keyed.ensures)
      | else-i-eq0 w ↦ w.v-is ∙ value_else k v c.loop-i.v i w.if-i-eq0.false c.loop-i.invariant.state
    ] in
    record {
      state = now ∙ ap (value_after k v) (let q : i / 32 + 1 ≡ (i + 1 + 31) / 32 = omega arith in q);
      so_far = byte_more c.loop-i.out (λ (m : ℕ). get_or (value_after k v (m / 32 + 1)) (m % 32) 0) i _ (omega arith) (ap (λ (x : List ℕ). get_or x (i % 32) 0) now) c.loop-i.invariant.so_far;
    }

pub returns-clause-bytes : goal.returns-clause-bytes
returns-clause-bytes c = filled (value_after c.args.k.now c.args.v.now) (values_of_32 c.args.k.now c.args.v.now) c.loop-i.out (length c.args.out.now) (omega arith) (λ m h. c.loop-i.invariant.so_far m (omega arith))

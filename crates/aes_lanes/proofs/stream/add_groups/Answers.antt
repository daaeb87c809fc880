use Rattle.std.proofs.Common.{subst, ◌≡◌, ◌+◌, ◌*◌, ◌/◌, ℕ, length, ap₂, ◌∙◌, arith, bit_xor, refl}
use Rattle.aes_spec.specs.Aes.{IsState, cipher}
use Rattle.aes_lanes.specs.Streams.{Adds}
use Rattle.aes_lanes.proofs.Parts.{adds_none, adds_both, group_byte}
use Rattle.aes_lanes.proofs.stream.add_groups.Goals as goal

pub loop-i-init : goal.loop-i-init
loop-i-init c w keys = adds_none (cipher w c.args.rounds) c.args.start.now c.args.text.now 0

pub loop-i-preserved : goal.loop-i-preserved
loop-i-preserved c w keys =
    let f = cipher w c.args.rounds in
    let s = c.args.start.now in
    let t : IsState s = record { long = c.told-start; small = c.fits-start } in
    let i = c.loop-i.i in
    let old = c.loop-i.text in
    let new = c.add_blocks.new.text in
    let add = c.add_blocks.ensures in
    let part : Adds f s old new (256 * i) (256 * (i + 1)) = record {
      long = omega arith;
      before = add.before;
      added = λ p low high within.
          add.within p low (omega arith)
          ∙ ap₂ bit_xor refl (group_byte f s c.group.result p i c.count_at-count.result t low (omega arith) c.count_at-count.ensures (λ b q hb hq. c.group.ensures w b q hb hq (keys b hb)));
      after = λ p high. add.after p (omega arith);
    } in
    adds_both f s c.args.text.now old new 0 (256 * i) (256 * (i + 1)) (omega arith) (omega arith) (c.loop-i.invariant w keys) part

pub returns : goal.returns
returns c w keys =
    let e : c.loop-i.i ≡ length c.args.text.now / 256 = omega arith in
    subst (λ (n : ℕ). Adds (cipher w c.args.rounds) c.args.start.now c.args.text.now c.loop-i.text 0 (256 * n)) e (c.loop-i.invariant w keys)

use Rattle.std.proofs.Common.{◌/◌, ℕ, length, ap₂, ◌∙◌, arith, bit_xor, refl}
use Rattle.aes_spec.specs.Aes.{IsState, cipher}
use Rattle.aes_lanes.proofs.Parts.{same_past, group_byte}
use Rattle.aes_lanes.proofs.stream.add_last_group.Goals as goal

pub returns : goal.returns
returns c w keys =
    let f = cipher w c.args.rounds in
    let s = c.args.start.now in
    let t : IsState s = record { long = c.told-start; small = c.fits-start } in
    let i : ℕ = length c.args.text.now / 256 in
    let add = c.add_part.ensures in
    record {
      long = omega arith;
      before = add.before;
      added = λ p low high within.
          add.within p low within
          ∙ ap₂ bit_xor refl (group_byte f s c.group.result p i c.count_at-count.result t low (omega arith) c.count_at-count.ensures (λ b q hb hq. c.group.ensures w b q hb hq (keys b hb)));
      after = λ p high. same_past c.add_part.new.text c.args.text.now p (omega arith) high;
    }

use Rattle.std.proofs.Common.{◌≡◌, ◌+◌, ◌-◌, ◌*◌, ◌/◌, ◌%◌, ap₂, ◌∙◌, arith, bit_xor, inl, inr}
use Rattle.std.proofs.lemmas.Bool.{cases_lt}
use Rattle.aes_lanes.specs.Rounds.{byte}
use Rattle.aes_lanes.proofs.stream.add_blocks.Goals as goal

pub loop-i-preserved : goal.loop-i-preserved
loop-i-preserved c =
    let at = c.args.at in
    let i = c.loop-i.i in
    let inv = c.loop-i.invariant in
    let add = c.add_block.ensures in
    record {
      same = λ p h. add.before p (omega arith) ∙ inv.same p h;
      done = λ p low high. elim (cases_lt p (at + 16 * i)) [
        | inl below ↦ add.before p below ∙ inv.done p low below
        | inr above ↦
            let lane : p - (at + 16 * i) ≡ (p - at) % 16 = omega arith in
            let vector : i ≡ (p - at) / 16 = omega arith in
            add.within p above (omega arith) ∙ ap₂ bit_xor (inv.rest p above) (ap₂ (byte c.args.stream.now) lane vector)
      ];
      rest = λ p h. add.after p (omega arith) ∙ inv.rest p (omega arith);
    }

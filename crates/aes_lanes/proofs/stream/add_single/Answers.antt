use Rattle.std.proofs.Common.{ap, ap₂, ◌∙◌, arith, bit_xor, refl}
use Rattle.aes_spec.specs.Aes.{IsState, cipher}
use Rattle.aes_spec.specs.Key.{words_state}
use Rattle.aes_lanes.proofs.Parts.{same_past, block_byte}
use Rattle.aes_lanes.proofs.stream.add_single.Goals as goal

pub returns-then-text-at-lt16 : goal.returns-then-text-at-lt16
returns-then-text-at-lt16 c =
    let f = cipher (words_state c.args.words.now) c.args.rounds in
    let s = c.args.start.now in
    let t : IsState s = record { long = c.told-start; small = c.fits-start } in
    let add = c.add_tail.ensures in
    record {
      long = omega arith;
      before = add.before;
      added = λ p low high within.
          add.within p low within
          ∙ ap₂ bit_xor refl (block_byte f s c.enciphered-stream.result p c.args.i c.count_at.result t low high c.count_at.ensures (c.enciphered-stream.ensures ∙ ap f c.with_count-block.ensures));
      after = λ p high. same_past c.add_tail.new.text c.args.text.now p (omega arith) (omega arith);
    }

pub returns-else-text-at-lt16 : goal.returns-else-text-at-lt16
returns-else-text-at-lt16 c =
    let f = cipher (words_state c.args.words.now) c.args.rounds in
    let s = c.args.start.now in
    let t : IsState s = record { long = c.told-start; small = c.fits-start } in
    let add = c.add_block.ensures in
    record {
      long = omega arith;
      before = add.before;
      added = λ p low high within.
          add.within p low high
          ∙ ap₂ bit_xor refl (block_byte f s c.enciphered-stream.result p c.args.i c.count_at.result t low high c.count_at.ensures (c.enciphered-stream.ensures ∙ ap f c.with_count-block.ensures));
      after = add.after;
    }

use Rattle.std.proofs.Common.{◌≤◌, ◌≡◌, ◌+◌, ◌++◌, length, take, sym, ◌∙◌, ap, arith, true}
use Rattle.std.proofs.lemmas.List.{length-take-le}
use Rattle.line_input.specs.HeldLines.{HeldLine}
use Rattle.line_input.specs.TextLines.{HasNoLineFeed}
use Rattle.line_input.proofs.LineFeeds.{no_feed_both}
use Rattle.line_input.proofs.Puts.{put_length, put_spare, put_take}
use Rattle.line_input.proofs.lines.Lines.push.Goals as goal

pub invariant_of-self : goal.invariant_of-self
invariant_of-self c =
    let used = c.self.inside.used in
    let bytes = c.self.inside.buffer.items in
    let piece = c.args.piece.now in
    let have : length (take used bytes) ≡ used = length-take-le used bytes (omega arith) in
    let text : take used bytes ≡ c.args.self.now.text = ap (λ (l : HeldLine). l.text) c.self.view_is in
    let room : length (take used bytes) + length piece ≤ 131400 = rw text c.requires.room in
    let not_refused = ap (λ (l : HeldLine). l.too_long) c.self.view_is ∙ c.requires.not_refused in
    record {
      room = ap length c.put.ensures ∙ put_length bytes piece used (omega (arith, have, room)) ∙ c.self.invariant.room;
      within = omega (arith, have, room);
      spare = rw c.put.ensures (put_spare bytes piece used 131400 (omega arith) c.self.invariant.spare);
      no_feed = rw (c.put.ensures, put_take bytes piece used (omega arith)) (no_feed_both (take used bytes) piece c.self.invariant.no_feed c.requires.no_feed);
      nothing_refused = λ h. cc;
    }

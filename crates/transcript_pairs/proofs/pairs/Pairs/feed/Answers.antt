use Rattle.std.proofs.Common.{◌≡◌, ◌<◌, ◌∙◌, ap, drop, refl, subst, sym, length}
use Rattle.std.proofs.lemmas.List.{take_rest}
use Rattle.transcript_pairs.specs.PairStreams.{HeldPair}
use Rattle.transcript_pairs.specs.ReplyStreams.{head_size}
use Rattle.transcript_pairs.proofs.PairFeeding.{TakenThrice, fed_broken, fed_more, fed_whole}
use Rattle.transcript_pairs.proofs.pairs.Pairs.feed.Goals as goal

pub returns-in-Err : goal.returns-in-Err
returns-in-Err c =
    let fresh = ap (λ (held : HeldPair). held.fault) (sym c.self.view_is) ∙ c.in_default.is in
    let remainder = take_rest c.args.piece.now c.in-Whole.count in
    fed_broken fresh c.in-Whole.ensures (rw remainder at c.in-Err.ensures)

pub returns-then-is_whole : goal.returns-then-is_whole
returns-then-is_whole c =
    let fresh = ap (λ (held : HeldPair). held.fault) (sym c.self.view_is) ∙ c.in_default.is in
    let remainder = take_rest c.args.piece.now c.in-Whole.count in
    let last = take_rest (drop c.in-Whole.count c.args.piece.now) c.in-Ok.count in
    let taken : TakenThrice c.args.self.now c.take_command.new.self c.take_head.new.self c.skip_payload-payload.new.self c.args.piece.now c.in-Whole.count c.in-Ok.count c.skip_payload-payload.result = record {
      first = c.in-Whole.ensures;
      second = rw remainder at c.in-Ok.ensures;
      within = rw (remainder, last) at c.skip_payload-payload.ensures.within;
      third = c.skip_payload-payload.ensures.held;
    } in
    fed_whole fresh taken (c.if-is_whole.ensures.whole refl)

pub returns-else-is_whole : goal.returns-else-is_whole
returns-else-is_whole c =
    let fresh = ap (λ (held : HeldPair). held.fault) (sym c.self.view_is) ∙ c.in_default.is in
    let remainder = take_rest c.args.piece.now c.in-Whole.count in
    let last = take_rest (drop c.in-Whole.count c.args.piece.now) c.in-Ok.count in
    let taken : TakenThrice c.args.self.now c.take_command.new.self c.take_head.new.self c.skip_payload-payload.new.self c.args.piece.now c.in-Whole.count c.in-Ok.count c.skip_payload-payload.result = record {
      first = c.in-Whole.ensures;
      second = rw remainder at c.in-Ok.ensures;
      within = rw (remainder, last) at c.skip_payload-payload.ensures.within;
      third = c.skip_payload-payload.ensures.held;
    } in
    fed_more fresh taken c.skip_payload-payload.ensures.part
    (subst (λ (held : HeldPair). length held.head < head_size held.head → held.skipped ≡ 0) c.self.view_is c.self.invariant.unskipped)
    (rw (remainder, last) at c.skip_payload-payload.ensures.all) (c.if-is_whole.ensures.short refl)

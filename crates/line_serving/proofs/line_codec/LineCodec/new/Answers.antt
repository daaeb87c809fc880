use Rattle.std.proofs.Common.{◌≡◌, ◌∙◌, true, false, sym, ap, subst, arith}
use Rattle.line_input.specs.TextLines.{HasNoLineFeed}
use Rattle.line_input.specs.HeldLines.{HeldLine, no_line}
use Rattle.line_serving.proofs.line_codec.LineCodec.new.Goals as goal

pub invariant_of-result : goal.invariant_of-result
invariant_of-result c =
    let empty : c.in_ok-new.field-0 ≡ no_line = c.in_ok-new.ensures in
    let NoFeed : HeldLine → Type 0 = λ line. HasNoLineFeed line.text in record {
      no_feed = subst NoFeed (sym empty) tt;
      no_command = λ stands. c.in_ok-new-2.ensures;
      spelled = λ stands. let wrong : true ≡ false = sym stands ∙ ap (λ (line : HeldLine). line.whole) empty in absurd (cc wrong);
      countable = λ stands. omega arith;
      refused = λ refused. let wrong : true ≡ false = sym refused ∙ ap (λ (line : HeldLine). line.too_long) empty in absurd (cc wrong);
      no_reply = c.in_ok-new-3.ensures;
    }

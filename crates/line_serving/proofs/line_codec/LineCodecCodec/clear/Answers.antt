use Rattle.std.proofs.Common.{◌≡◌, ◌∙◌, ◌+◌, sym, ap, subst}
use Rattle.line_serving.specs.LineGrammar.{line_grammar}
use Rattle.line_serving.specs.LineCodecs.{fragment_of}
use Rattle.line_input.specs.HeldLines.{cleared_line}
use Rattle.line_serving.specs.declared.line_codec.LineCodec.TheInside.{Inside}
use Rattle.line_serving.specs.LineTaking.{held_bytes}
use Rattle.command_serving.specs.Decoding.{cleared}
use Rattle.line_serving.proofs.LineDecoding.{counted_line, counted_none, forgotten}
use Rattle.line_serving.proofs.line_codec.LineCodecCodec.clear.Goals as goal
use Rattle.line_serving.proofs.line_codec.LineCodecCodec.clear.Goals.{then-stands, else-stands}

pub returns : goal.returns
returns c =
    let lines = c.clear.new.self in
    let Forgets : Inside → Type 0 = λ inside. lines ≡ cleared_line inside.lines
    → record { start = inside.ended; bytes = held_bytes lines; fault = inside.fault } ≡ cleared line_grammar c.args.self.now in
    let before : cleared line_grammar (fragment_of c.self.inside) ≡ cleared line_grammar c.args.self.now = ap (λ held. cleared line_grammar held) c.self.view_is in
    elim c.if-stands.branch [
      | then-stands w ↦ subst Forgets (sym w.self-inside-is)
          (λ is. forgotten c.self.inside lines (c.self.inside.ended + 1) is (counted_line c.self.inside c.self.invariant (sym c.stands.ensures ∙ w.if-stands.true)) ∙ before) c.clear.ensures
      | else-stands w ↦ subst Forgets (sym w.self-inside-is)
          (λ is. forgotten c.self.inside lines c.self.inside.ended is (counted_none c.self.inside c.self.invariant (sym c.stands.ensures ∙ w.if-stands.false)) ∙ before) c.clear.ensures
    ]

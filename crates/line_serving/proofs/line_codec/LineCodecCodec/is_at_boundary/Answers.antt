use Rattle.std.proofs.Common.{◌≡◌, ◌∙◌, sym, ap, subst}
use Rattle.module_frames.specs.Fragments.{Fragment}
use Rattle.line_serving.specs.LineGrammar.{line_grammar}
use Rattle.command_serving.specs.Decoding.{IsReady}
use Rattle.line_serving.proofs.LineDecoding.{text_is_all}
use Rattle.line_serving.proofs.line_codec.LineCodecCodec.is_at_boundary.Goals as goal

pub returns : goal.returns
returns c =
    let Ready : Fragment → Type 0 = λ held. IsReady line_grammar held in
    let text : c.args.self.now.bytes ≡ c.self.inside.lines.text =
    ap (λ (held : Fragment). held.bytes) (sym c.self.view_is) ∙ text_is_all c.self.inside c.self.invariant (subst Ready (sym c.self.view_is) c.requires) in
    (λ empty. text ∙ c.is_empty.ensures.0 empty, λ none. c.is_empty.ensures.1 (sym text ∙ none))

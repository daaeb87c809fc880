use Rattle.std.proofs.Common.{◌+◌, sym, subst}
use Rattle.module_frames.specs.Fragments.{Fragment}
use Rattle.line_serving.specs.LineGrammar.{line_grammar}
use Rattle.line_serving.specs.LineCodecs.{fragment_of}
use Rattle.command_serving.specs.Decoding.{IsReady, Decodes}
use Rattle.command_serving.specs.declared.codec.Decoded.TheVariants as decoded
use Rattle.line_serving.proofs.LineDecoding.{ready_is_unfinished, decoded_more, decoded_command, decoded_comment, decoded_fault, kept_more}
use Rattle.line_serving.proofs.line_codec.LineCodecCodec.decode.Goals as goal

pub take_line-requires-clause-unfinished : goal.take_line-requires-clause-unfinished
take_line-requires-clause-unfinished c =
    let Ready : Fragment → Type 0 = λ held. IsReady line_grammar held in
    ready_is_unfinished c.self.inside c.self.invariant (subst Ready (sym c.self.view_is) c.requires.ready)

pub invariant_of-self : goal.invariant_of-self
invariant_of-self c =
    let Ready : Fragment → Type 0 = λ held. IsReady line_grammar held in
    kept_more c.self.inside c.take_line.new.lines c.take_line.new.command c.args.piece.now c.self.invariant
    (ready_is_unfinished c.self.inside c.self.invariant (subst Ready (sym c.self.view_is) c.requires.ready)) c.in-More.ensures

pub returns-in-More : goal.returns-in-More
returns-in-More c =
    let Ready : Fragment → Type 0 = λ held. IsReady line_grammar held in
    let After : Fragment → Type 0 = λ held. Decodes line_grammar held c.args.piece.now decoded.More (fragment_of (record c.self.inside { lines = c.take_line.new.lines; command = c.take_line.new.command })) in
    subst After c.self.view_is (decoded_more c.self.inside c.take_line.new.lines c.take_line.new.command c.args.piece.now c.self.invariant (subst Ready (sym c.self.view_is) c.requires.ready) c.in-More.ensures)

pub returns-in-Command : goal.returns-in-Command
returns-in-Command c =
    let Ready : Fragment → Type 0 = λ held. IsReady line_grammar held in
    let After : Fragment → Type 0 = λ held. Decodes line_grammar held c.args.piece.now (decoded.Command c.in-Command.count) (fragment_of (record c.self.inside { lines = c.take_line.new.lines; command = c.take_line.new.command })) in
    subst After c.self.view_is (decoded_command c.self.inside c.take_line.new.lines c.take_line.new.command c.args.piece.now c.in-Command.count c.self.invariant (subst Ready (sym c.self.view_is) c.requires.ready) c.in-Command.ensures)

pub returns-in-Comment : goal.returns-in-Comment
returns-in-Comment c =
    let Ready : Fragment → Type 0 = λ held. IsReady line_grammar held in
    let After : Fragment → Type 0 = λ held. Decodes line_grammar held c.args.piece.now (decoded.Skipped c.in-Comment.count) (fragment_of (record c.self.inside { lines = c.take_line.new.lines; command = c.take_line.new.command; ended = c.self.inside.ended + 1 })) in
    subst After c.self.view_is (decoded_comment c.self.inside c.take_line.new.lines c.take_line.new.command c.args.piece.now c.in-Comment.count c.self.invariant (subst Ready (sym c.self.view_is) c.requires.ready) c.in-Comment.ensures)

pub returns-in-Bad : goal.returns-in-Bad
returns-in-Bad c =
    let Ready : Fragment → Type 0 = λ held. IsReady line_grammar held in
    let After : Fragment → Type 0 = λ held. Decodes line_grammar held c.args.piece.now (decoded.Fault (c.self.inside.ended + 1)) held in
    subst After c.self.view_is (decoded_fault c.self.inside c.take_line.new.lines c.take_line.new.command c.args.piece.now c.self.invariant (subst Ready (sym c.self.view_is) c.requires.ready) c.in-Bad.ensures (fragment_of c.self.inside))

pub take_line-requires-clause-no_command : goal.take_line-requires-clause-no_command
take_line-requires-clause-no_command c =
    let Ready : Fragment → Type 0 = λ held. IsReady line_grammar held in
    c.self.invariant.no_command (ready_is_unfinished c.self.inside c.self.invariant (subst Ready (sym c.self.view_is) c.requires.ready)).stands

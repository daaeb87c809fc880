use Rattle.std.proofs.Common.{◌≡◌, ◌<◌, ◌+◌, ◌++◌, List, ℕ, ◌∙◌, ap, arith}
use Rattle.module_frames.specs.CommandFrames.{CommandFrame}
use Rattle.session_commands.specs.SessionCommands.{size_of}
use Rattle.session_commands.proofs.Texts.{text_push, text_whole, text_length}
use Rattle.session_commands.proofs.drawing.push_text.Goals as goal

pub loop-place-preserved : goal.loop-place-preserved
loop-place-preserved c =
    text_push c.args.into.now c.loop-place.into c.push.new.self c.args.r c.loop-place.place _ c.loop-place.invariant c.push.ensures
    (rw c.size_of-place-end.ensures.size at c.loop-place-test.true) (cc (c.from.ensures, c.from-in-loop-place.ensures))

pub returns-clause-text : goal.returns-clause-text
returns-clause-text c =
    c.loop-place.invariant
    ∙ ap (λ (xs : List ℕ). let d : CommandFrame = record c.args.into.now { body = c.args.into.now.body ++ xs } in d)
    (text_whole c.args.r c.loop-place.place (rw c.size_of-place-end.ensures.size at c.loop-place-test.false))

pub returns-clause-short : goal.returns-clause-short
returns-clause-short c = omega (arith, text_length c.args.r, c.size_of-place-end.ensures.size, c.size_of-place-end.ensures.short)

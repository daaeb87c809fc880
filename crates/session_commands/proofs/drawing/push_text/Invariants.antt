use Rattle.std.proofs.Common.{◌≡◌, ◌++◌, take}
use Rattle.session_commands.specs.SessionCommands.{text_of}
use Rattle.session_commands.proofs.drawing.push_text.Given as goal

abbrev pub invariant-loop-place : goal.invariant-loop-place
invariant-loop-place l = l.into ≡ record l.initial.into { body = l.initial.into.body ++ take l.place (text_of l.r) }

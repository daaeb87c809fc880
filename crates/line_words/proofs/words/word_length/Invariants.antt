use Rattle.std.proofs.Common.{◌≡◌, ◌+◌, drop}
use Rattle.line_words.specs.Cuts.{word_length}
use Rattle.line_words.proofs.words.word_length.Given as goal

-- no space stands before the place
abbrev pub invariant-loop-place : goal.invariant-loop-place
invariant-loop-place l = word_length l.line ≡ l.place + word_length (drop l.place l.line)

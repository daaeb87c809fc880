use Rattle.std.proofs.Common.{◌≡◌, ◌+◌, ◌++◌, ℕ, List, length, take, Some}
use Rattle.line_words.specs.Bytes.{bytes_of}
use Rattle.operator_text.proofs.pushing.push_spelled.Given as goal

abbrev pub invariant-loop-place : goal.invariant-loop-place
invariant-loop-place l =
    (length l.into.body ≡ length l.initial.into.body + l.place)
    × ((bytes : List ℕ) → bytes_of l.word ≡ Some bytes → l.into ≡ record l.initial.into { body = l.initial.into.body ++ take l.place bytes })

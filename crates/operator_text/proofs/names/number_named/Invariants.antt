use Rattle.std.proofs.Common.{◌≡◌, ◌<◌, ℕ, Some, slice_get}
use Rattle.operator_text.specs.Names.{names}
use Rattle.operator_text.proofs.names.number_named.Given as goal

abbrev pub invariant-loop-place : goal.invariant-loop-place
invariant-loop-place l = (place : ℕ) → place < l.place → slice_get (names l.word_type) place ≡ Some l.word → ⊥

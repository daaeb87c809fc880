use Rattle.std.proofs.Common.{◌≡◌, drop}
use Rattle.vector_suite.specs.Kinds.{kind_of, first_named}
use Rattle.vector_suite.specs.declared.kind.TheConstants.{KINDS}
use Rattle.vector_suite.proofs.names.kind_of.Given as goal

-- none of the kinds so far has the name
abbrev pub invariant-loop-place : goal.invariant-loop-place
invariant-loop-place l = kind_of l.name ≡ first_named l.name (drop l.place KINDS)

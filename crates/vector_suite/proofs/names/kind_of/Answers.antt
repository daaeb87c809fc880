use Rattle.std.proofs.Common.{refl, ◌∙◌}
use Rattle.vector_suite.specs.Kinds.{kind_of}
use Rattle.vector_suite.specs.declared.kind.TheConstants.{KINDS}
use Rattle.vector_suite.proofs.Named.{next_kind}
use Rattle.vector_suite.proofs.names.kind_of.Goals as goal

pub loop-place-init : goal.loop-place-init
unfolding kind_of
loop-place-init c = refl

pub loop-place-preserved : goal.loop-place-preserved
loop-place-preserved c =
    c.loop-place.invariant
    ∙ next_kind c.args.name.now c.name_of.result.now KINDS c.loop-place.place _ c.eq.result c.loop-place-test.true c.name_of.ensures c.eq.ensures c.if-eq.false

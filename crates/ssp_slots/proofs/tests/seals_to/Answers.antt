use Rattle.std.proofs.Common.{false, arith}
use Rattle.bits_core.specs.declared.parameter.Header.{Header}
use Rattle.bits_core.specs.declared.parameter.Domain.TheVariants.{Other}
use Rattle.gcm_mode.proofs.Readiness.{filled_is_ready}
use Rattle.ssp_slots.proofs.SlotsPrepared.{filled_after_put}
use Rattle.ssp_slots.proofs.tests.seals_to.Goals as goal

pub seal-requires-clause-ready : goal.seal-requires-clause-ready
seal-requires-clause-ready c =
    let header : Header = record { kind = c.args.kind; domain = Other; export = false; uses = 1 } in
    filled_is_ready _ c.args.key.now
    (filled_after_put _ _ _ header _ _ c.in-Ok.ensures.filled c.put.ensures.well_formed (omega arith) c.requires.prepared c.prepared.ensures.prepared)

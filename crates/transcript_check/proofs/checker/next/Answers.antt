use Rattle.transcript_check.proofs.Leading.{leads_when}
use Rattle.transcript_check.proofs.checker.next.Goals as goal

pub returns : goal.returns
returns c = rw c.then_some.ensures (leads_when c.args.before c.args.command.now c.args.head.now c.in_ok-after.after c.is_told.result c.in_ok-after.ensures.0 c.in_ok-after.ensures.1 c.in_ok-after.ensures.2
    c.is_told.ensures.0 c.is_told.ensures.1)

use Rattle.std.proofs.Common.{refl, arith}
use Rattle.std.proofs.lemmas.Bool.Decides.{nat_tests}
use Rattle.module_frames.proofs.Headers.{is_too_long-headed, short_is_not_too_long}
use Rattle.module_frames.proofs.frames.is_too_long.Goals as goal

pub returns-then-header-ge-PLAIN_HEADER : goal.returns-then-header-ge-PLAIN_HEADER
returns-then-header-ge-PLAIN_HEADER c = rw (is_too_long-headed c.args.header.now c.if-header-ge-PLAIN_HEADER.true, c.body_length.ensures.known) refl

pub returns-else-header-ge-PLAIN_HEADER : goal.returns-else-header-ge-PLAIN_HEADER
returns-else-header-ge-PLAIN_HEADER c = rw (short_is_not_too_long c.args.header.now c.if-header-ge-PLAIN_HEADER.false) (grind (arith, nat_tests))

use Rattle.std.proofs.Common.{◌∙◌}
use Rattle.module_frames.proofs.Headers.{version_in_piece, version_held}
use Rattle.module_frames.proofs.frames.is_numbered_with.Goals as goal

pub returns-then-held-lt2 : goal.returns-then-held-lt2
returns-then-held-lt2 c = c.is_at.ensures ∙ version_in_piece c.args.held.now c.args.piece.now c.if-held-lt2.true

pub returns-else-held-lt2 : goal.returns-else-held-lt2
returns-else-held-lt2 c = c.is_at-else-held-lt2.ensures ∙ version_held c.args.held.now c.args.piece.now c.if-held-lt2.false

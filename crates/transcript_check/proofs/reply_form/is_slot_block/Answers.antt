use Rattle.std.proofs.Common.{◌≡◌, true, false, sym, ◌∙◌}
use Rattle.transcript_check.proofs.SlotBlocks.{no_slot_block}
use Rattle.transcript_check.proofs.reply_form.is_slot_block.Goals as goal

pub returns-in-None : goal.returns-in-None
returns-in-None c = (λ e. cc, λ is. absurd (no_slot_block c.args.block.now (λ same. let both : true ≡ false = sym (c.is_same.ensures.1 same) ∙ c.if-is_same.false in cc) c.in-None.ensures is))

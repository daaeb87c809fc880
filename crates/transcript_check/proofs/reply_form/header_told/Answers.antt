use Rattle.transcript_check.proofs.SlotBlocks.{full_block}
use Rattle.transcript_check.proofs.reply_form.header_told.Goals as goal

pub returns : goal.returns
returns c = full_block c.args.block.now c.in_ok-from_number.field-0 c.in_ok-from_number-2.field-0 c.uses_told.result c.told-block c.if-block-ne1.false c.in_ok-from_number.ensures.numbered c.in_ok-from_number-2.ensures.numbered
    c.if-block-gt1.false c.if-block-ne0.false c.if-block-ne0-2.false c.if-block-ne0-3.false c.uses_told.ensures

use Rattle.std.proofs.Common.{arith, rules, refl, sym, ◌∙◌}
use Rattle.module_frames.proofs.Heads.{behind, too_long, told_version, told_sequence, told_width, encoded_by, status_found, state_found, indicator_found}
use Rattle.module_frames.proofs.head.reply_head.Goals as goal

pub returns-then-length-gt-LARGEST_PAYLOAD : goal.returns-then-length-gt-LARGEST_PAYLOAD
returns-then-length-gt-LARGEST_PAYLOAD c =
    too_long c.args.bytes.now c.number_at-length.result c.number_at-length.ensures.in_range c.number_at-length.ensures.encoded (omega arith)

pub returns : goal.returns
returns c =
    let bytes = c.args.bytes.now in
    let sequence = c.in_ok-sequence.sequence in
    let ends = c.in_ok-sequence.ensures in
    record {
      widths = record {
        service = search rules;
        sequence = told_width sequence bytes ends;
        code = c.code.ensures.in_range;
        block = search rules;
        payload = c.number_at-length.ensures.in_range;
      };
      payload = omega arith;
      more = behind sequence bytes;
      encoded = encoded_by _ bytes (behind sequence bytes) (omega arith) (record {
        start = omega arith;
        version = told_version sequence bytes ends;
        service = refl;
        status = status_found _ _ (sym c.from_number.ensures ∙ c.in_ok-status.was);
        state = state_found _ _ (sym c.from_number-2.ensures ∙ c.in_ok-state.was);
        approved = indicator_found _ _ (sym c.indicated.ensures ∙ c.in_ok-approved.was);
        code = c.code.ensures.encoded;
        block = c.block.ensures;
        payload = c.number_at-length.ensures.encoded;
        sequence = told_sequence sequence bytes ends;
      });
    }

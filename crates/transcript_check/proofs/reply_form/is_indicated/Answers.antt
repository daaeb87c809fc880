use Rattle.std.proofs.Common.{sym, ap, ◌∙◌}
use Rattle.service_table.specs.Services.{is_cryptographic}
use Rattle.module_frames.specs.Requests.{request_value}
use Rattle.transcript_check.proofs.RequestKinds.{cryptographic_request}
use Rattle.transcript_check.proofs.Indicators.{slotless, with_use, without_use}
use Rattle.transcript_check.proofs.reply_form.is_indicated.Goals as goal

pub returns-then-names_no_slot : goal.returns-then-names_no_slot
returns-then-names_no_slot c =
    let what = cryptographic_request (request_value c.args.request.now) (sym (ap is_cryptographic c.service_for.ensures) ∙ sym c.is_cryptographic.ensures ∙ c.if-not-is_cryptographic.false) in
    slotless (request_value c.args.request.now) what.0 c.args.head.now c.is_approved_use-is_use.result what.1 (sym (c.names_no_slot.ensures what.0 what.1) ∙ c.if-names_no_slot.true)
    (c.is_approved_use-is_use.ensures what.0 what.1)

pub returns-then-is_use : goal.returns-then-is_use
returns-then-is_use c =
    let what = cryptographic_request (request_value c.args.request.now) (sym (ap is_cryptographic c.service_for.ensures) ∙ sym c.is_cryptographic.ensures ∙ c.if-not-is_cryptographic.false) in
    with_use (request_value c.args.request.now) what.0 c.args.head.now c.is_approved_use-is_use.result what.1 (sym (c.names_no_slot.ensures what.0 what.1) ∙ c.if-names_no_slot.false)
    (c.is_approved_use-is_use.ensures what.0 what.1) c.if-is_use.true

pub returns-else-is_use : goal.returns-else-is_use
returns-else-is_use c =
    let what = cryptographic_request (request_value c.args.request.now) (sym (ap is_cryptographic c.service_for.ensures) ∙ sym c.is_cryptographic.ensures ∙ c.if-not-is_cryptographic.false) in
    without_use (request_value c.args.request.now) what.0 c.args.head.now c.is_approved_use-is_use.result what.1 (sym (c.names_no_slot.ensures what.0 what.1) ∙ c.if-names_no_slot.false)
    (c.is_approved_use-is_use.ensures what.0 what.1) c.if-is_use.false

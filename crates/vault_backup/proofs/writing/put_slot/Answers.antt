use Rattle.std.proofs.Common.{◌≡◌, ℕ, List, length, sym, ap, ◌∙◌, subst, arith}
use Rattle.aes_core.specs.Key.{aes}
use Rattle.key_wrap.specs.Wrapping.{kwp}
use Rattle.ssp_slots.specs.Slots.{slot_in}
use Rattle.ssp_slots.proofs.WellFormedSlots.{HoldsParameter-at, length-parameter}
use Rattle.vault_backup.specs.Writing.{Signs, record_front}
use Rattle.vault_backup.proofs.Kept.{signs_both, one_kept, if_kept-some}
use Rattle.vault_backup.proofs.writing.put_slot.Goals as goal

pub returns-clause-signs : goal.returns-clause-signs
returns-clause-signs c = λ key is.
    let vault = c.args.vault.now in
    let id : ℕ = c.args.id in
    let text = c.bytes-text.result.now in
    let header = c.in-Some.header in
    let kept = sym c.in-Some.ensures.kept in
    let holds = HoldsParameter-at vault id header c.bytes-text.ensures.well_formed (omega arith) (if_kept-some (slot_in vault id).header header kept).is in
    let long : length text ≡ (slot_in vault id).length = ap length c.bytes-text.ensures.bytes ∙ length-parameter header (slot_in vault id) holds in
    let front : List ℕ = record_front id header (length text) in
    let first : Signs c.args.port.now.outbox.now c.put_signed.new.port.outbox.now c.args.stream.now c.put_signed.new.stream front =
    subst (λ (xs : List ℕ). Signs c.args.port.now.outbox.now c.put_signed.new.port.outbox.now c.args.stream.now c.put_signed.new.stream xs)
    c.record_front-front.ensures c.put_signed.ensures.signs in
    subst (λ (xs : List ℕ). Signs c.args.port.now.outbox.now c.put_wrapping.new.port.outbox.now c.args.stream.now c.put_wrapping.new.stream xs)
    (one_kept key vault id header text kept c.bytes-text.ensures.bytes long)
    (signs_both c.args.port.now.outbox.now c.put_signed.new.port.outbox.now c.put_wrapping.new.port.outbox.now c.args.stream.now c.put_signed.new.stream c.put_wrapping.new.stream
    front (kwp (aes key) text) first (c.put_wrapping.ensures.signs key is))

use Rattle.std.proofs.Common.{◌≡◌, ◌≤◌, ◌∙◌, List, ℕ, length, take, ap, arith}
use Rattle.ssp_slots.specs.declared.slot.Slot.{Slot}
use Rattle.ssp_slots.specs.Slots.{parameter}
use Rattle.crypto_services.specs.AtSlots.{slot_at}
use Rattle.crypto_services.proofs.Wrappings.{parameter_length, wrapped_most}
use Rattle.crypto_services.proofs.wrapping.put_wrapping.Goals as goal

pub put_front-requires-clause-within : goal.put_front-requires-clause-within
put_front-requires-clause-within g c =
    let slot : Slot = slot_at c.args.parts.now.vault.slots c.args.second in
    let key : List ℕ = parameter (slot_at c.args.parts.now.vault.slots c.args.kek) in
    let text : List ℕ = take (length c.bytes-text.result.now) c.lay.new.buf in
    let long : length text ≡ slot.length =
    ap length c.lay.ensures.front ∙ ap length c.bytes-text.ensures.bytes ∙ parameter_length slot (c.bytes-text.ensures.well_formed.each c.args.second (omega arith)) in
    wrapped_most g.E.Engine.calls g.met.E.Engine.keeps c.args.parts.now.engine c.args.pad key text slot.length c.wrap-size.result c.requires.wrappable long
    (c.wrap-size.ensures.size key c.prepared_key-prepared.ensures.filled)

pub put_front-requires-clause-room : goal.put_front-requires-clause-room
put_front-requires-clause-room g c =
    let most : c.wrap-size.result ≤ 80 = put_front-requires-clause-within g c in
    let empty : length c.args.port.now.outbox.now.bytes ≡ 0 = ap length c.requires.empty in
    omega (arith, most, empty, c.requires.room)

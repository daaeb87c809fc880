use Rattle.std.proofs.Common.{List, ℕ, length, take, arith}
use Rattle.ssp_slots.specs.declared.slot.Slot.{Slot}
use Rattle.ssp_slots.specs.Slots.{parameter}
use Rattle.crypto_services.specs.AtSlots.{slot_at}
use Rattle.crypto_services.proofs.Wrappings.{aes_key, unwrapped_most}
use Rattle.crypto_services.proofs.wrapping.fill_unwrapped.Goals as goal

pub fill_front-status-requires-clause-most : goal.fill_front-status-requires-clause-most
fill_front-status-requires-clause-most g c =
    let slot : Slot = slot_at c.args.parts.now.vault.slots c.args.kek in
    let wrapped : List ℕ = take (length c.args.wrapped.now) c.lay.new.buf in
    unwrapped_most g.E.Engine.calls g.met.E.Engine.keeps c.args.parts.now.engine c.args.pad (parameter slot) c.args.wrapped.now wrapped c.unwrap-size.result
    (aes_key slot (c.prepared_key-prepared.ensures.well_formed.each c.args.kek (omega arith)) c.requires.prepared) (λ n. omega (arith, c.type_inv.wrapped n)) c.requires.length
    c.lay.ensures.front (c.unwrap-size.ensures.size (parameter slot) c.prepared_key-prepared.ensures.filled)

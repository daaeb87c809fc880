use Rattle.std.proofs.Common.{sym, subst, arith}
use Rattle.std.proofs.lemmas.Grind.{common_steps}
use Rattle.bits_core.specs.ByteList.{IsBytes}
use Rattle.ssp_slots.specs.declared.slot.Slot.{Slot}
use Rattle.ssp_slots.specs.Slots.{IsWellFormed}
use Rattle.ssp_slots.proofs.WellFormedSlots.{IsWellFormed-filled}
use Rattle.ssp_slots.proofs.slot.Slot.fill.Goals as goal

pub returns-clause-filled : goal.returns-clause-filled
returns-clause-filled c = grind (arith, common_steps)

pub returns-clause-well_formed : goal.returns-clause-well_formed
returns-clause-well_formed c =
    let bytes : IsBytes c.args.bytes.now = λ n. omega (arith, c.type_inv.bytes n) in
    let Well : Slot → Type 0 = λ slot. IsWellFormed slot in
    subst Well (sym (returns-clause-filled c)) (IsWellFormed-filled c.args.header.now c.args.bytes.now c.requires (omega arith) bytes)

use Rattle.std.proofs.Common.{◌≡◌, ◌<◌, length, get_or, arith, sym, subst, ◌∙◌}
use Rattle.std.proofs.lemmas.List.{get_or_default}
use Rattle.ssp_slots.specs.declared.slot.Slot.{Slot}
use Rattle.ssp_slots.specs.Slots.{empty_slot}
use Rattle.ssp_slots.specs.PreparedKeys.{IsPreparedFor, blank_key}
use Rattle.ssp_slots.proofs.WellFormedSlots.{AreWellFormed-with_slot}
use Rattle.ssp_slots.proofs.SlotsPrepared.{ArePrepared-set_slot}
use Rattle.ssp_slots.proofs.vault.Vault.source.Goals as goal

pub invariant_of-self : goal.invariant_of-self
invariant_of-self c =
    let kept = c.self.invariant in
    let slots = c.self.inside.slots.items in
    let key = get_or c.self.inside.prepared.items c.from.result blank_key in
    let OfSlot : Slot → Type 0 = λ s. IsPreparedFor s key in
    let below : c.from.result < 16 = omega arith in
    let long : length slots ≡ 16 = kept.well_formed.sixteen in
    let here : c.index_mut.result.now ≡ get_or slots c.from.result empty_slot =
    c.index_mut.ensures.value ∙ get_or_default slots c.from.result c.index_mut.result.now empty_slot (omega arith) in
    record {
      well_formed = AreWellFormed-with_slot _ _ _ kept.well_formed c.spend.ensures.well_formed;
      prepared = ArePrepared-set_slot _ _ _ _ kept.prepared kept.well_formed.sixteen below
          (c.spend.ensures.same_key key (subst OfSlot (sym here) (kept.prepared.each c.from.result below)));
      slots_room = kept.slots_room;
      prepared_room = kept.prepared_room;
    }

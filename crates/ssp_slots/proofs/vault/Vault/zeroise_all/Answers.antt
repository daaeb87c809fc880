use Rattle.std.proofs.Common.{◌≡◌, ℕ, ◌<◌, ◌≤◌, ap, List, get_or, length, arith, ◌∙◌, ◌++◌, take, drop}
use Rattle.std.proofs.lemmas.List.{append-nil, take_all, drop_all}
use Rattle.bits_core.specs.ByteList.{zeros}
use Rattle.ssp_slots.specs.declared.slot.Slot.{Slot}
use Rattle.ssp_slots.specs.Slots.{empty_slot, Contents}
use Rattle.ssp_slots.proofs.WellFormedSlots.{all_same}
use Rattle.ssp_slots.proofs.vault.Vault.zeroise_all.Goals as goal

-- a list that was written whole
whole : (n : ℕ) (new old : List Slot) → length old ≤ n → length new ≡ length old → take n (new ++ drop (length new) old) ≡ new
whole n new old within same =
    ap (λ (rest : List Slot). take n (new ++ rest)) (drop_all (length new) old (omega arith))
    ∙ ap (take n) (append-nil new)
    ∙ take_all n new (omega arith)

pub returns-clause-zeroised : goal.returns-clause-zeroised
returns-clause-zeroised c =
    let seen : List Slot → Contents = λ slots. record { slots = slots; rows = zeros 16 } in
    let old = c.self.inside.slots.items in
    let d = c.deref_mut-slot-items.ensures in
    let long : length c.loop-slot.slot-items ≡ length old = c.loop-slot.auto.slot-items ∙ ap length d.value in
    let sixteen : length c.loop-slot.slot-items ≡ 16 = long ∙ c.self.invariant.well_formed.sixteen in
    let written = whole c.self.inside.slots.len c.loop-slot.slot-items old (omega (arith, ap length d.value, d.len)) long in
    let each : (k : ℕ) → k < 16 → get_or c.loop-slot.slot-items k empty_slot ≡ empty_slot = λ k below. c.loop-slot.invariant k (omega arith) in
    ap seen (written ∙ all_same 16 c.loop-slot.slot-items empty_slot sixteen each)

use Rattle.std.proofs.Common.{◌≡◌, ℕ, ◌<◌, slice_index_or}
use Rattle.ssp_slots.specs.Slots.{empty_slot}
use Rattle.ssp_slots.proofs.vault.Vault.zeroise_all.Given as goal

abbrev pub invariant-loop-slot : goal.invariant-loop-slot
invariant-loop-slot l = (k : ℕ) → k < l.slot-index → slice_index_or l.slot-items k empty_slot ≡ empty_slot

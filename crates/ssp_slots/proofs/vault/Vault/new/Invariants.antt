use Rattle.std.proofs.Common.{◌≡◌, replicate}
use Rattle.ssp_slots.specs.Slots.{empty_slot}
use Rattle.ssp_slots.proofs.vault.Vault.new.Given as goal

abbrev pub invariant-loop : goal.invariant-loop
invariant-loop l = l.slots.items ≡ replicate l.counter empty_slot

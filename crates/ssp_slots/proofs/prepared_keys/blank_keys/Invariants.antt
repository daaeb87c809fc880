use Rattle.std.proofs.Common.{◌≡◌, ℕ, ◌<◌, length, slice_index_or}
use Rattle.gcm_mode.specs.Filled.{IsWiped}
use Rattle.ssp_slots.specs.PreparedKeys.{blank_key}
use Rattle.ssp_slots.proofs.prepared_keys.blank_keys.Given as goal

abbrev pub invariant-loop : goal.invariant-loop
invariant-loop l = (length l.keys.items ≡ l.counter) × ((id : ℕ) → id < l.counter → IsWiped (slice_index_or l.keys.items id blank_key))

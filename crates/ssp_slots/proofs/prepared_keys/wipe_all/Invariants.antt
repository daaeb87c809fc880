use Rattle.std.proofs.Common.{ℕ, ◌<◌, slice_index_or}
use Rattle.gcm_mode.specs.Filled.{IsWiped}
use Rattle.ssp_slots.specs.PreparedKeys.{blank_key}
use Rattle.ssp_slots.proofs.prepared_keys.wipe_all.Given as goal

abbrev pub invariant-loop-key : goal.invariant-loop-key
invariant-loop-key l = (id : ℕ) → id < l.key-index → IsWiped (slice_index_or l.keys id blank_key)

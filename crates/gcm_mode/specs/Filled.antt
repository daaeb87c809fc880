-- What a prepared key holds.
use Rattle.std.specs.Prelude.{◌≡◌, ◌<◌, ℕ, List}
use Rattle.aes_core.specs.Schedules.{IsExpanded, blank}
use Rattle.ghash_core.specs.Filled as Tables
use Rattle.gcm_mode.specs.Gcm.{hash_subkey}
use Rattle.gcm_mode.specs.declared.prepared_key.Prepared.{Prepared}

-- it was filled from the key: the schedule is the key's, and the table that of the key's hash subkey
pub record IsFilled (p : Prepared) (key : List ℕ) : Type 0 where
  pub schedule : IsExpanded p.schedule key
  pub table : Tables.IsFilled p.table (hash_subkey key)

-- it can be used: some key was filled in, and it was not wiped since
abbrev pub IsReady : Prepared → Type 0
IsReady p = 0 < p.schedule.rounds

-- all of it is zero
pub record IsWiped (p : Prepared) : Type 0 where
  pub schedule : p.schedule ≡ blank
  pub table : Tables.IsWiped p.table

-- How a vault's fields are seen, and what holds of them.
use Rattle.std.specs.Prelude.{◌≡◌}
use Rattle.std.specs.Vec.{vec_capacity}
use Rattle.ssp_slots.specs.declared.vault.Vault.TheInside.{Inside}
use Rattle.ssp_slots.specs.Slots.{Contents, AreWellFormed}
use Rattle.ssp_slots.specs.PreparedKeys.{ArePrepared}

abbrev pub contents_of : Inside → Contents
contents_of vault = record { slots = vault.slots.items; rows = vault.rows }

-- The rules. The vectors have no room behind their items, where a copy could stay.
pub record IsVaultInvariant (vault : Inside) : Type 0 where
  pub well_formed : AreWellFormed (contents_of vault)
  pub prepared : ArePrepared vault.slots.items vault.prepared.items
  pub slots_room : vec_capacity vault.slots ≡ 16
  pub prepared_room : vec_capacity vault.prepared ≡ 16

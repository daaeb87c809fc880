-- A module whose slots were restored.
use Rattle.std.proofs.Common.{◌≡◌, ℕ, List, ap, subst}
use Rattle.std.specs.Prelude.{Result, Ok, Err, OnErr}
use Rattle.ssp_slots.specs.Slots.{Contents, AreWellFormed}
use Rattle.vault_backup.specs.declared.restore_fault.RestoreFault.{RestoreFault}
use Rattle.vault_backup.specs.Restoring.{Restores}
use Rattle.state_model.specs.ModuleView.{ModuleView}
use Rattle.state_model.specs.MachineState.{MachineState}
use Rattle.state_model.specs.Represents.{machine_of, Represents}
use Rattle.state_model.specs.Copies.{restored_state, restored_view}
use Rattle.state_model.proofs.Rules.{slots_kept}
use Rattle.state_model.proofs.Representing.{moved, rules_here}

-- restored or refused, the rows stay
pub rows_stay : (kek mac bytes : List ℕ) (old new : Contents) (result : Result ℕ RestoreFault) → Restores kek mac bytes old result new → OnErr result (new ≡ old) → new.rows ≡ old.rows
rows_stay kek mac bytes old new (Ok count) restores unchanged = restores.2.3.rows
rows_stay kek mac bytes old new (Err fault) restores unchanged = ap (λ (vault : Contents). vault.rows) unchanged

-- so nothing changes of a module but its slots
pub others_stay : {V : Type 0} (m : ModuleView V) (new : Contents) → new.rows ≡ m.vault.rows → record m { vault = new } ≡ restored_view m new.slots
others_stay {V} m new rows =
    let with_rows : List ℕ → ModuleView V = λ found. record m { vault = record { slots = new.slots; rows = found } } in
    ap with_rows rows

-- and it represents the machine with these slots
pub restored_represents : {V : Type 0} (m : ModuleView V) (s : MachineState V) (new : Contents) → Represents m s → AreWellFormed new → new.rows ≡ m.vault.rows
    → Represents (record m { vault = new }) (restored_state s new.slots)
restored_represents {V} m s new represents are rows =
    let Well : List ℕ → Type 0 = λ found. AreWellFormed (record { slots = new.slots; rows = found }) in
    let here = ap (λ (found : ModuleView V). machine_of found s.shared.samples) (others_stay m new rows) in
    let rules = slots_kept (machine_of m s.shared.samples) m.engine new.slots (rules_here represents) (subst Well rows are) in
    moved (λ t. restored_state t new.slots) m (record m { vault = new }) s represents here rules represents.counts

-- A module and the machine that it represents.
use Rattle.std.proofs.Common.{◌≡◌, ◌≢◌, ℕ, List, refl, sym, subst}
use Rattle.noise_health.specs.Counts.{Counts}
use Rattle.service_table.specs.declared.state.State.TheVariants as state
use Rattle.state_model.specs.ModuleView.{ModuleView}
use Rattle.state_model.specs.MachineState.{MachineState, IsWellFormed}
use Rattle.state_model.specs.Represents.{machine_of, Represents, IsRepresented}

-- the samples that a module counts
abbrev pub samples_of : {V : Type 0} {m : ModuleView V} → IsRepresented m → List ℕ
samples_of held = held.0.shared.samples

-- the machine that a module is keeps the rules
pub well_formed_of : {V : Type 0} {m : ModuleView V} (held : IsRepresented m) → IsWellFormed (machine_of m (samples_of held))
well_formed_of held = let Rules : MachineState _ → Type 0 = λ s. IsWellFormed s in subst Rules (sym held.1.same) held.1.well_formed

-- and represents itself
pub represents_itself : {V : Type 0} (m : ModuleView V) (samples : List ℕ) → IsWellFormed (machine_of m samples) → (m.public.state ≢ state.Error → Counts m.health samples)
    → IsRepresented m
represents_itself m samples rules counts = (machine_of m samples, record { same = refl; well_formed = rules; counts = counts })

-- a module that moved on as the machine did
pub moved : {V : Type 0} (f : MachineState V → MachineState V) (m n : ModuleView V) (s : MachineState V) → Represents m s
    → machine_of n (f (machine_of m s.shared.samples)).shared.samples ≡ f (machine_of m s.shared.samples)
    → IsWellFormed (f (machine_of m s.shared.samples)) → (n.public.state ≢ state.Error → Counts n.health (f (machine_of m s.shared.samples)).shared.samples)
    → Represents n (f s)
moved {V} f m n s represents here rules counts =
    let At : MachineState V → Type 0 = λ t. Represents n (f t) in
    subst At represents.same (record { same = here; well_formed = rules; counts = counts })

-- the rules hold of the machine that a module is
pub rules_here : {V : Type 0} {m : ModuleView V} {s : MachineState V} → Represents m s → IsWellFormed (machine_of m s.shared.samples)
rules_here {V} represents = let Rules : MachineState V → Type 0 = λ s. IsWellFormed s in subst Rules (sym represents.same) represents.well_formed

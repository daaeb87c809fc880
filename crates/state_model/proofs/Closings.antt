-- A module that is as `open` makes it.
use Rattle.std.proofs.Common.{List, ℕ, sym, ap, subst}
use Rattle.module_frames.specs.PublicState.{unpowered}
use Rattle.state_model.specs.ModuleView.{ModuleView}
use Rattle.state_model.specs.MachineState.{MachineState, initial_state}
use Rattle.state_model.specs.Management.{with_public, reset}
use Rattle.state_model.specs.Represents.{Represents}
use Rattle.state_model.specs.Closing.{IsShut}
use Rattle.state_model.proofs.Keeping.{begins}

-- of an engine, an image and a digest, which are its own then
pub shut_of : {V : Type 0} (m : ModuleView V) (engine : V) (image digest : List ℕ) → Represents m (initial_state engine image digest) → IsShut m
shut_of {V} m engine image digest represents =
    let At : MachineState V → Type 0 = λ t. Represents m (initial_state t.shared.engine t.shared.image t.shared.digest) in
    subst At (sym represents.same) represents

-- a module that was reset, and is without power then
pub unpowered_represents : {V : Type 0} (m : ModuleView V) (s : MachineState V) → Represents m (reset s)
    → Represents (record m { public = unpowered }) (initial_state s.shared.engine s.shared.image s.shared.digest)
unpowered_represents {V} m s represents =
    let same = represents.same in
    let init = ap (λ (t : MachineState V). t.shared.public.state) same in
    record {
      same = ap (λ (t : MachineState V). with_public t unpowered) same;
      well_formed = begins s.shared.engine s.shared.image s.shared.digest;
      counts = λ _. represents.counts (λ e. cc);
    }

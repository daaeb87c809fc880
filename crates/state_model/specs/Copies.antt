-- What a restore changes of a module, and of the machine that it represents: the slots alone.
use Rattle.std.specs.Prelude.{List}
use Rattle.ssp_slots.specs.declared.slot.Slot.{Slot}
use Rattle.state_model.specs.MachineState.{MachineState}
use Rattle.state_model.specs.ModuleView.{ModuleView}

-- the machine with these slots: what is public, the tests, the engine, the generator, the rows and the entry are as they were
abbrev pub restored_state : {V : Type 0} → MachineState V → List Slot → MachineState V
restored_state s slots = record s { slots = slots }

-- the module with these slots, and all else as it was
abbrev pub restored_view : {V : Type 0} → ModuleView V → List Slot → ModuleView V
restored_view m slots = record m { vault = record m.vault { slots = slots } }

-- The status block that tells what a slot holds, but for its bytes.
use Rattle.std.specs.Prelude.{ℕ, List}
use Rattle.std.specs.Option.{option_map_or}
use Rattle.ssp_slots.specs.declared.slot.Slot.{Slot}
use Rattle.module_frames.specs.PublicState.{no_block}
pub use Rattle.module_frames.specs.PublicState.{header_block}

-- of an empty slot all is zero
abbrev pub slot_block : Slot → List ℕ
slot_block slot = option_map_or (header_block slot.length) slot.header no_block

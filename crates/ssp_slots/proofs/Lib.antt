pub mod WellFormedSlots
pub mod SlotsPrepared
pub mod SlotSets
pub mod Trees

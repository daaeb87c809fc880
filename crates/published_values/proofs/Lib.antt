pub mod Substitutions
pub mod Schedules
pub mod CounterBlocks
pub mod Sealing

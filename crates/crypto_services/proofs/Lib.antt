pub mod DrawServed
pub mod FaultRefused
pub mod Generated
pub mod Sourcing
pub mod TwoSlots
pub mod Wrappings
pub mod ZeroWork
pub mod UnderKey

pub mod TwoKeys
pub mod Stepping
pub mod BackingUp
pub mod Officer
pub mod Restoring

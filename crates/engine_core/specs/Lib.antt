pub mod Inputs
pub mod Results
pub mod Standards
pub mod Calls
pub mod Faults
pub mod Engines
pub mod StandardBytes
pub mod Keeping

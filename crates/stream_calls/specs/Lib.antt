pub mod PartialWrites
pub mod Streams

pub mod Cmac
pub mod Streams
pub mod Derivation
pub mod Steps

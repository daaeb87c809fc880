pub mod Block
pub mod Number
pub mod ByBytes
pub mod Places
pub mod Lane
pub mod Filled

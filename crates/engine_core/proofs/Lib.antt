pub mod Decrypted
pub mod Wrongness

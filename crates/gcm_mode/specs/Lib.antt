pub mod Gcm
pub mod Filled

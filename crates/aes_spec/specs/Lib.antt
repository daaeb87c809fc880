pub mod Field
pub mod Aes
pub mod Key
pub mod Gctr

pub mod Bytes
pub mod ZeroPadding
pub mod XorBytes
mod Appended

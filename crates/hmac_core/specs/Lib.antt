pub mod Hash
pub mod Hmac
pub mod Blocks

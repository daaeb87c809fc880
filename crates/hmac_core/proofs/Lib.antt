pub mod Lengths
pub mod Blocks
pub mod DigestBytes

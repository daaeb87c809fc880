pub mod Sets
pub mod Buffers
pub mod WorkBytes

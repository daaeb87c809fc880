pub mod Algorithms
pub mod Parameters
pub mod ByteList
pub mod OutboxContents

pub mod BlockSums
pub mod Blocks
pub mod Shifts
pub mod Taking
pub mod Closing
pub mod Padding
pub mod KeyBlocks

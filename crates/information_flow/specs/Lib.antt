pub mod Tainted
pub mod Taint
pub mod Variants
pub mod Flow
pub mod OneCommand

pub mod Widths
pub mod Running
pub mod Weaving

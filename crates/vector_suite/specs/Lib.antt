pub mod Kinds
pub mod Shapes
pub mod Lengths
pub mod Vectors
pub mod Outcomes
pub mod Lines

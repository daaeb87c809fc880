pub mod WorkOutcomes
pub mod Works

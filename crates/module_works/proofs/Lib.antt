pub mod WorkOutcomes
pub mod WorkRuns
pub mod OneWork

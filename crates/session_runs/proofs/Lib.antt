mod Counting
pub mod InOrder
mod CommandSteps
mod Rows
pub mod SessionLengths

pub mod Choices
pub mod FirstLines
mod WordChoices
pub mod Deciding
pub mod Readings
pub mod Faults
pub mod Counts

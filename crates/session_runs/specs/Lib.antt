pub mod Summaries
pub mod Tallies
pub mod SessionRuns
pub mod Laws

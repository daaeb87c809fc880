pub mod Transcripts
pub mod Checking
pub mod Counting
pub mod Effects
pub mod Laws

pub mod ReplyStreams
pub mod PairStreams
pub mod PairSteps
pub mod Laws

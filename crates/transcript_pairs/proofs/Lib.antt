pub mod ReplyEncodings
pub mod ReplyFaults
pub mod HeldPairs
pub mod PairFeeding
pub mod PairParsing

pub mod Nibbles
pub mod Powers
pub mod Rounds
pub mod Streams

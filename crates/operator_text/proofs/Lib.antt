mod HexPairs
mod NameTables
pub mod ValuesOf
mod Bodies
pub mod OneCommand
mod WordTests
mod Readings
mod WordLists

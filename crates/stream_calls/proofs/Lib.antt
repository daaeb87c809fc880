pub mod PartialWrites
pub mod ResultCases

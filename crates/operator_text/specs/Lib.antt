pub mod LineForms
pub mod Names
pub mod WordValues
pub mod Spelling

pub mod Wrapping
pub mod Unwrapping
pub mod InPlace

pub mod Words
pub mod UnderKey

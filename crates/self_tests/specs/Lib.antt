pub mod Tests
pub mod TestSet
pub mod KnownAnswers
pub mod Integrity

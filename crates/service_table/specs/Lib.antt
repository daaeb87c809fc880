pub mod Numbers
pub mod Services
pub mod KnownAnswers
pub mod Answers
pub mod Laws
pub mod Failures

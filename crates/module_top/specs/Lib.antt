pub mod Program
pub mod Outcomes
pub mod Secrets

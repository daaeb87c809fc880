pub mod Running
pub mod Counter
pub mod OneKey
pub mod Readiness

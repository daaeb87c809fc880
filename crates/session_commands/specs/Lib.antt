pub mod SessionCommands
pub mod Sessions

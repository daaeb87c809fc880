pub mod Adapters
pub mod Contents
pub mod Events
pub mod Faults
pub mod FilesContent
pub mod Memory
pub mod Explained

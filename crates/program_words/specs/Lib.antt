pub mod DigestFile
pub mod Faults
pub mod Forms

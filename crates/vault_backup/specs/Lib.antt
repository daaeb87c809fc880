pub mod BackupForm
pub mod Backups
pub mod Laws
pub mod Reading
pub mod Restoring
pub mod Writing

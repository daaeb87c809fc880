pub mod Records
pub mod Passes
pub mod Forms
pub mod Unwrapped
pub mod Restored
pub mod Kept
pub mod BackupLaws
pub mod RestoreLaws

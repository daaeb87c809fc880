mod Through
pub mod BackupRuns
pub mod RestoredRuns

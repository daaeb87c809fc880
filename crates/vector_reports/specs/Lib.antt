pub mod Findings
pub mod ReportText
pub mod VectorReports
pub mod Reporting
pub mod Runs
pub mod Progress

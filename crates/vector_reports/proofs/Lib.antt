pub mod LineReads
pub mod ReportLines
pub mod LineSplits
pub mod ChunkSteps
pub mod EndSteps
pub mod StreamEnds
pub mod OneReport
pub mod VectorRuns

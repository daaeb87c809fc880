pub mod CommandRuns
pub mod ChunkSteps
pub mod StreamEnds
pub mod StreamRuns
pub mod OneRun
pub mod SecretStreams

pub mod NamedFiles
pub mod DigestLines
pub mod OneOutput
pub mod RunOutcomes
pub mod ReportOutcomes
pub mod TranscriptOutcomes
pub mod WorkSecrets
pub mod SecretOutputs

pub mod LineFaults
pub mod LineUnits
pub mod LineDecoding
pub mod ServedLines
pub mod LineRuns
pub mod LineSecrets

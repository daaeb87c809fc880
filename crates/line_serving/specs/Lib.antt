pub mod LineGrammar
pub mod LineLaws
pub mod LineTaking
pub mod LineCodecs
pub mod BadLines
pub mod Operating
pub mod LineSecrets

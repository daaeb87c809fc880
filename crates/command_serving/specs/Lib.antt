pub mod Grammars
pub mod FrameGrammar
pub mod Decoding
pub mod Run
pub mod Chunks
pub mod Serving
pub mod Secrets

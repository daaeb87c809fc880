pub mod TextLines
pub mod HeldLines
pub mod LineBuffers

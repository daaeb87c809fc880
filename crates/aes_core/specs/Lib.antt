pub use Rattle.aes_spec.specs.Field
pub use Rattle.aes_spec.specs.Aes
pub use Rattle.aes_spec.specs.Key
pub use Rattle.aes_spec.specs.Gctr
pub mod Schedules

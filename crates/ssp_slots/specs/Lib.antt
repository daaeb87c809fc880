pub mod Slots
pub mod Refusals
pub mod Ancestry
pub mod PreparedKeys
pub mod VaultInvariant

pub mod Block
pub mod Kind
pub mod Rebuild
pub mod Tasks

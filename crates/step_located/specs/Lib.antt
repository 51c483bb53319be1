pub mod Located
pub mod CopyStep
pub mod Sought
pub mod Rebuilt
pub mod Theorems

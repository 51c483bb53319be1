pub mod Bound
pub mod Work
pub mod Inner
pub mod Theorems

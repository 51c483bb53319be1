pub mod Exact
pub mod Sorts
pub mod Paths
pub mod Theorems

pub mod Verdict
pub mod Theorems

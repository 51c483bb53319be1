pub mod Encoding
pub mod Run
pub mod Theorems

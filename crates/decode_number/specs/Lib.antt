pub mod Answer
pub mod Decoding
pub mod Bounded
pub mod Theorems

-- The laws by which numbers are read.
pub mod Number
pub mod Decoding
pub mod Bounded

-- The laws by which the functions meet their contracts.
pub mod Encoding
pub mod Alike
pub mod Traverse

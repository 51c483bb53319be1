-- The laws by which the functions meet their contracts.
pub mod Small
pub mod Loaded
pub mod Argument

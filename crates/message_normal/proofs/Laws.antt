-- The laws by which the functions meet their contracts.
pub mod Normal
pub mod Surviving

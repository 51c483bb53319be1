-- The laws by which the functions meet their contracts.
pub mod Opening
pub mod Place
pub mod Copies
pub mod Rest
pub mod Bound

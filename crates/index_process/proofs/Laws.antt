-- The laws by which the functions meet their contracts.
pub mod Kept
pub mod Read
pub mod Index

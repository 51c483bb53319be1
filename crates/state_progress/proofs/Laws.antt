-- The laws by which the functions meet their contracts.
pub mod Progress
pub mod Push
pub mod Renaming
pub mod Written

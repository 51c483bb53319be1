-- The laws by which the readers meet their contracts.
pub mod Room
pub mod Scope
pub mod Sorts
pub mod Whole

-- The laws by which the functions meet their contracts.
pub mod Judged
pub mod Model

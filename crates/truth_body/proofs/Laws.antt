-- The laws by which the functions meet their contracts.
pub mod Budget
pub mod Less
pub mod Meets
pub mod Stepless
pub mod Reached
pub mod Memo

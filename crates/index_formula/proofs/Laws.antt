-- The laws by which the functions meet their contracts, and that of formulas without steps.
pub mod Kept
pub mod Read
pub mod Index
pub mod Stepless

-- The laws by which the functions meet their contracts.
pub mod Process
pub mod Record
pub mod Room
pub mod Stored

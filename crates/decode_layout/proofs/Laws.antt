-- The laws by which ends are found.
pub mod Table
pub mod Standing
pub mod Ends
pub mod Behind

-- The laws by which the functions meet their contracts.
pub mod Parts
pub mod Falls
pub mod Arrivals
pub mod Body
pub mod Turn
pub mod Loop
pub mod Step
pub mod Visit

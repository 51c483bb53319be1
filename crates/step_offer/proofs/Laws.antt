-- The laws by which the functions meet their contracts.
pub mod Pass
pub mod Spent
pub mod Look
pub mod Seek
pub mod SeeksAlike
pub mod Hand

-- The laws by which the functions meet their contracts.
pub mod Offer
pub mod Thread
pub mod Hand
pub mod Seek

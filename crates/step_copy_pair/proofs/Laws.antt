-- The laws by which the functions meet their contracts.
pub mod Look
pub mod Senders
pub mod Takers
pub mod Meet

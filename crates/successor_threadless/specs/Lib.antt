pub mod Excess
pub mod Threadless

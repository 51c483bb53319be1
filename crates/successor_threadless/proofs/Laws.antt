-- The laws by which the functions meet their contracts.
pub mod Excess
pub mod Light
pub mod LightMove
pub mod Threadless
pub mod ThreadlessForm

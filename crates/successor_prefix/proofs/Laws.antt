-- The laws by which the functions meet their contracts.
pub mod Alone
pub mod AloneForm
pub mod AloneLead
pub mod Around
pub mod Halves

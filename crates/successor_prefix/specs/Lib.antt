pub mod Alone
pub mod Halves

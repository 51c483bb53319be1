pub mod Counting
pub mod Rests
pub mod Settled
pub mod Rest

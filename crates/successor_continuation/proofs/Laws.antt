-- The laws by which the functions meet their contracts.
pub mod Counting
pub mod Standing
pub mod Fixed
pub mod Rests
pub mod RestsMoves
pub mod RestsThread
pub mod RestsSettled
pub mod Settled
pub mod Rest

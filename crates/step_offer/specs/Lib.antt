pub mod Hand
pub mod Seek
pub mod Pass

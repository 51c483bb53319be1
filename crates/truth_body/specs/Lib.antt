pub mod Judged
pub mod Reached
pub mod Memo

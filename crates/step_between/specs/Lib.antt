pub mod Between
pub mod Buffered

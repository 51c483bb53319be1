pub mod Head
pub mod Count
pub mod News
pub mod Traversal
pub mod Traverse
pub mod Settled

-- The laws by which the functions meet their contracts.
pub mod Bound
pub mod Field
pub mod Leaf
pub mod Reduce
pub mod Term
pub mod Work
pub mod Inner
pub mod Room

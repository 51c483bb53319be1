-- The laws by which the functions meet their contracts, and the theorem that the traversal does what is decided.
pub mod Decided

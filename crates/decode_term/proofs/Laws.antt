-- The laws by which the readers of terms meet their contracts, and those of a node of any sort.
pub mod Head
pub mod Headed
pub mod Node
pub mod Alike
pub mod Rows
pub mod Terms

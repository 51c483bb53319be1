-- The laws by which the functions meet their contracts, and those of the traversal on trees.
pub mod Fits
pub mod TraversalResult
pub mod Counting
pub mod Crowd
pub mod Settling
pub mod Head
pub mod HeadKinds
pub mod Count
pub mod Fixed
pub mod Traverse
pub mod Copy
pub mod Prefix

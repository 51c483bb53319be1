pub mod Progress
pub mod Represented
pub mod TraversalResult
pub mod Written

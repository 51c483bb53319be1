-- The laws by which the functions meet their contracts.
pub mod Find
pub mod ReplThreads
pub mod NoSilent
pub mod CopyStep

pub mod CopyStep

pub mod Shape
pub mod Sort
pub mod Path

pub mod Kind
pub mod Layout
pub mod Ends
pub mod Theorems

pub mod Place
pub mod Recipe
pub mod Head
pub mod Inner

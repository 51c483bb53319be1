-- The laws by which the functions meet their contracts, and those of formulas that stand at a position.
pub mod Formula
pub mod Recipe
pub mod Head

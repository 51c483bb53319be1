-- The laws by which the functions meet their contracts.
pub mod SeekMoves
pub mod LabelledBehind
pub mod LabelledMoves
pub mod Labelled

-- Bytes: processes and formulas, how they are written, when they are well-formed, and reading them ("Bytes", "Turned back for the
-- input").
pub mod Process
pub mod Formula
pub mod Encoding
pub mod Standing
pub mod Scope
pub mod Nesting
pub mod WellFormed
pub mod Number
pub mod Kind
pub mod Reading
pub mod Refusal

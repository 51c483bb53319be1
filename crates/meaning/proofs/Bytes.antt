-- Bytes: reading is exact and refusals are exact ("Bytes", "Turned back for the input").
pub mod Reader
pub mod Reading
pub mod Refusal
pub mod NameRange
pub mod Formed

-- The laws by which the functions meet their contracts.
pub mod Copy
pub mod Word
pub mod Buffer

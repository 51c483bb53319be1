pub mod Word
pub mod Buffer

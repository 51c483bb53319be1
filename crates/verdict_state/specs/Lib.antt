pub mod Models
pub mod Model

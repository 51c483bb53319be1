pub mod Place
pub mod Room
pub mod Record
pub mod Stored

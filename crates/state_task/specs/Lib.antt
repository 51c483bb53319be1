pub mod Machine
pub mod Place
pub mod Copies
pub mod Thread

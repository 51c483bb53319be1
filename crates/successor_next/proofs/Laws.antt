pub mod Sending
pub mod Arrive

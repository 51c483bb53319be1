pub mod Arrive

-- Steps: states, the step rules, and the steps of a state as a list ("Steps").
pub mod State
pub mod Offer
pub mod Silent
pub mod Step
pub mod Copies
pub mod Enumeration
pub mod Invariant

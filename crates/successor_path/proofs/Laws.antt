-- The laws by which the functions meet their contracts.
pub mod Reach
pub mod ReachDown
pub mod ReachPart
pub mod ReachOffers
pub mod ReachKinds

-- The laws by which the functions meet their contracts.
pub mod Between
pub mod BetweenLists
pub mod BetweenMoves
pub mod BetweenOffers
pub mod BetweenOnward
pub mod BetweenSought
pub mod Buffered

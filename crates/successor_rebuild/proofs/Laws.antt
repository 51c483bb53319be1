-- The laws by which the functions meet their contracts.
pub mod Rebuild
pub mod Rebuilt
pub mod RebuiltBoth
pub mod RebuiltLeaves
pub mod RebuiltMarks
pub mod RebuiltMove
pub mod RebuiltMeant
pub mod Block
pub mod Kept
pub mod Still
pub mod Tasks
pub mod Kind
pub mod Own
pub mod Formed

-- The laws by which the functions meet their contracts.
pub mod Next
pub mod Silent
pub mod SilentLater

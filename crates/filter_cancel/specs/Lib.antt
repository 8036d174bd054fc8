pub mod Done
pub mod Stored
pub mod Laws

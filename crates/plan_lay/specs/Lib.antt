pub mod Lay
pub mod Laws

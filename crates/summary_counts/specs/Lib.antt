pub mod Counted
pub mod Rules
pub mod Laws

pub mod Slots
pub mod Columns
pub mod Rules
pub mod Laws

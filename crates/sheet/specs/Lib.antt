pub mod Bounds
pub mod Promise
pub mod Line
pub mod Advance
pub mod File
pub mod Laws

pub mod Search
pub mod First
pub mod Moves
pub mod Samples

-- The theorems over the definitions.
pub mod Search
pub mod Complete
pub mod Stays
pub mod Memory
pub mod Full
pub mod First
pub mod Moves
pub mod Exactly
pub mod Checked
pub mod Samples

-- The theorems over the definitions.
pub mod Done
pub mod Stored

-- The theorems over the definitions.
pub mod Replaced

-- The theorems over the definitions.
pub mod Made
pub mod Counts

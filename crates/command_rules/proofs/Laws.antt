-- The theorems over the definitions.
pub mod Checks
pub mod Changes

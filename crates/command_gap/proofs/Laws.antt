-- The theorems over the definitions.
pub mod Pairs
pub mod Draft
pub mod Checks

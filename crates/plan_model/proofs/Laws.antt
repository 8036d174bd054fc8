-- The theorems over the definitions.
pub mod Fits
pub mod Memory
pub mod Check
pub mod Kept
pub mod Samples

-- The theorems over the definitions.
pub mod Mask
pub mod Bounds
pub mod Answers

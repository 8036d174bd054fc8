-- The theorems over the definitions.
pub mod Queue
pub mod Step
pub mod Steps
pub mod Kept
pub mod Stable

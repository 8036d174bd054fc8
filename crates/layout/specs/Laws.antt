-- The theorems over the definitions.
pub mod Memory
pub mod Marks
pub mod Names

-- The theorems over the definitions.
pub mod Steps
pub mod Agree
pub mod Answers

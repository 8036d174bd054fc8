-- The theorems over the definitions.
pub mod Copy
pub mod Changes
pub mod Kinds

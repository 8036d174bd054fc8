-- The theorems over the definitions.
pub mod Obeys

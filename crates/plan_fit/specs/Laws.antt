-- The theorems over the definitions.
pub mod Words
pub mod Rows
pub mod Fits

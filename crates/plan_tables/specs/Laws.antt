-- The theorems over the definitions.
pub mod Lookup
pub mod Due
pub mod Fit
pub mod Last

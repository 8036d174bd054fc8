-- The theorems over the definitions.
pub mod Places
pub mod First

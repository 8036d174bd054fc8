-- The theorems over the definitions.
pub mod Demands
pub mod Store
pub mod Sheet

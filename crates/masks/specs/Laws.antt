-- The theorems over the definitions.
pub mod Slots
pub mod Columns
pub mod Rules

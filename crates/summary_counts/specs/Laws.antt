-- The theorems over the definitions.
pub mod Rules
pub mod Records
pub mod Counted

-- The theorems over the definitions.
pub mod Write
pub mod Rules
pub mod Post
pub mod Stored

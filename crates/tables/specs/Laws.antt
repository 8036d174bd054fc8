-- The theorems over the definitions.
pub mod Facts
pub mod Sweep
pub mod Part
pub mod Fill
pub mod Assign
pub mod Count
pub mod Lost
pub mod Masks
pub mod Flags
pub mod Left

-- The memory map.
pub mod Sizes
pub mod Places
pub mod Bounds
pub mod Value
pub mod Summary
pub mod Marks
pub mod Names
pub mod Memory
pub mod Laws

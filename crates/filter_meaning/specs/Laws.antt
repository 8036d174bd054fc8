-- The theorems over the definitions.
pub mod Rules
pub mod Working
pub mod Settled
pub mod Relaxing
pub mod Counts

-- The theorems over the definitions.
pub mod Reach
pub mod Spread
pub mod Scan
pub mod Seed
pub mod Closure
pub mod Reopen
pub mod Revive
pub mod Relaxed

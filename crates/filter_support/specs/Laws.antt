-- The theorems over the definitions.
pub mod Rows
pub mod Walk
pub mod Strikes
pub mod Known

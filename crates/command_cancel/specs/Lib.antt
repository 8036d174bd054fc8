pub mod Checks
pub mod Cancels

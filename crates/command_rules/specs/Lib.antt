pub mod Checks
pub mod Changes

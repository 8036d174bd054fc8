pub mod Pairs
pub mod Draft
pub mod Checks

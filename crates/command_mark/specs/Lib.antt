pub mod Checks
pub mod Back
pub mod Changes
pub mod Kinds
pub mod Laws

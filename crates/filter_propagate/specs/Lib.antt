pub mod Rules
pub mod Queue
pub mod Step
pub mod Steps
pub mod Kept
pub mod Stable
pub mod Laws

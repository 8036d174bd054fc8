pub mod Rules
pub mod Working
pub mod Relaxing
pub mod Counts
pub mod Laws

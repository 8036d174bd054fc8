pub mod Plans
pub mod Check
pub mod Samples

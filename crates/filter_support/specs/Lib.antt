-- The parts of a rule's revision: specs of the crate filter_support.
pub mod Rows
pub mod Walk
pub mod Strikes
pub mod Known
pub mod Laws

pub mod Sweep
pub mod Assign
pub mod Count
pub mod Lost
pub mod Masks
pub mod Laws

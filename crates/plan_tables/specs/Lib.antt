pub mod Lookup
pub mod Due
pub mod Fit
pub mod Laws

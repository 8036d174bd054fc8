-- What a host is told: specs of the crate berth.
pub mod Version

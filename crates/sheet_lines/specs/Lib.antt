pub mod Append
pub mod Joined
pub mod Digits
pub mod Lines
pub mod Calls
pub mod Lengths

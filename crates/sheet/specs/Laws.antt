pub mod Line
pub mod Answers
pub mod Advance
pub mod File
pub mod Whole

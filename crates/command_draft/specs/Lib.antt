pub mod Fields
pub mod Drafts

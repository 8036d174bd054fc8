-- The theorems over the definitions.
pub mod Lists
pub mod Fields
pub mod Redraft
pub mod Drafts

-- The theorems over the definitions.
pub mod Lists
pub mod Store

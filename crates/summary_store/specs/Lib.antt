-- What is shown of the stored table. Its definition is `replaced`, of the crate layout.
pub mod Laws

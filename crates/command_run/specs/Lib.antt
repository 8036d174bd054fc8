-- A command with the records that it leaves: specs of the crate command_run.
pub mod Lent
pub mod Store
pub mod Laws

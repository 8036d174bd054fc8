-- A file of commands: specs of the crate command_file.
pub mod Replay
pub mod Laws

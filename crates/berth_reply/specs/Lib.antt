-- The replies: specs of the crate berth_reply.
pub mod Replies
pub mod Places
pub mod Laws

pub mod Write
pub mod Rules
pub mod Post
pub mod Laws

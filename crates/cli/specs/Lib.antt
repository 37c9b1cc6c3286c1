pub mod About
pub mod Files
pub mod Reasons

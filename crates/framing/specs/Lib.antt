pub mod Frames
pub mod Places
pub mod Sending
pub mod Taking
pub mod Back

pub mod Status
pub mod Queue
pub mod Kept
pub mod Log
pub mod Messages
pub mod Report
pub mod Frames

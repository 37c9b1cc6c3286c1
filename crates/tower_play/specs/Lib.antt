pub mod Script
pub mod Lines
pub mod Calls
pub mod Reading
pub mod Report
pub mod Faults
pub mod Play

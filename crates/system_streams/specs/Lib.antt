pub mod Turns
pub mod Patient
pub mod ToStd
pub mod Copies

pub mod Fits
pub mod Confirming

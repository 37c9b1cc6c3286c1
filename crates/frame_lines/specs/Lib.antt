pub mod Fits
pub mod Printing
pub mod Asking

pub mod Words
pub mod Ending

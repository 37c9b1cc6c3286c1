pub mod Words
pub mod Listing
pub mod Failing

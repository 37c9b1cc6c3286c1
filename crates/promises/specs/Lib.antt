pub mod Promises
pub mod Loops
pub mod Fails
pub mod Counts
pub mod Patience
pub mod Survival

pub mod Records
pub mod Walk
pub mod Placed
pub mod Places
pub mod Disk
pub mod Log
pub mod Cuts
pub mod Opening

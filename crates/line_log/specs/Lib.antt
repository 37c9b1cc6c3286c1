pub mod Text
pub mod Log

pub mod Classes
pub mod Entries
pub mod Ranks
pub mod Runs
pub mod Templates

pub mod Loops
pub mod Ids

pub mod Rebuilding
pub mod Rows

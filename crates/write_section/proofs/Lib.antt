pub mod Joining
pub mod Additions
pub mod Calls
pub mod Refusals
pub mod Alone
pub mod Fields

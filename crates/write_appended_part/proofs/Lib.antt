pub mod Restating
pub mod Longer
pub mod InPlace
pub mod Outcomes

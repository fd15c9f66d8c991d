pub mod Passing
pub mod Sections
pub mod Places
pub mod Longer
pub mod Judging
pub mod Answers

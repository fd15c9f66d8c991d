pub mod Steps
pub mod Others
pub mod Notes
pub mod Rules
pub mod Sections
pub mod Headers

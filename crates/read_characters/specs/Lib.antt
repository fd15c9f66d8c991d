pub mod Classes
pub mod Page
pub mod Templates

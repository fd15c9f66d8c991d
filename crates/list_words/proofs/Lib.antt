pub mod Digits
pub mod Numerals
pub mod Stores
pub mod Words

pub mod Days
pub mod Exponents
pub mod Lists
pub mod Numbers
pub mod Order
pub mod Sizes

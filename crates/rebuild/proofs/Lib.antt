pub mod Main
pub mod Laws

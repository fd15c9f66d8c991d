pub mod StartBytes
pub mod Finishing
pub mod Main

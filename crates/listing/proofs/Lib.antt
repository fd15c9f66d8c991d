pub mod Apart
pub mod Buffers
pub mod Columns
pub mod Lengths
pub mod Lines
pub mod Main
pub mod Readback

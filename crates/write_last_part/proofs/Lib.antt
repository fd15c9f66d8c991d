pub mod Sections
pub mod Tiling
pub mod Stepping
pub mod LaidSections
pub mod Whole
pub mod Ended

pub mod FixedFields
pub mod Fronts
pub mod SubsectionFronts
pub mod Moving
pub mod Adding
pub mod LastHead

pub mod LastSection

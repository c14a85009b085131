pub mod Tiers
pub mod Rows
pub mod Whole

pub mod Entries
pub mod MarkBit
pub mod Marks
pub mod Steps
pub mod Tiers
pub mod Whole

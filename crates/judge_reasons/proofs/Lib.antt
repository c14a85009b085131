pub mod Live
pub mod Whole

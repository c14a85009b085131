pub mod Literals
pub mod Trail
pub mod Ways
pub mod Whole

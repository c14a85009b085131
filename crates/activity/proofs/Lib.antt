pub mod Keeping
pub mod Deciding
pub mod Scaling
pub mod Ways
pub mod Whole
pub mod Ready
pub mod Ranges
pub mod Determined

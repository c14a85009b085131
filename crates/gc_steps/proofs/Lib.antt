pub mod Following
pub mod Fewer
pub mod Four
pub mod Collecting

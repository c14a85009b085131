pub mod Viewed
pub mod Holding
pub mod Determined

pub mod Fours
pub mod Cleaned
pub mod Passing
pub mod Sweeping
pub mod Swept
pub mod Purging
pub mod Purged

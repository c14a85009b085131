pub mod Determined
pub mod Shut

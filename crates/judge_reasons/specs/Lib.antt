pub mod Reasons
pub mod Held

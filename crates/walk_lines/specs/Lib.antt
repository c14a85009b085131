pub mod Lines
pub mod Told

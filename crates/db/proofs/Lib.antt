pub mod Adding
pub mod Tiering

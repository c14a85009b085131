pub mod Sides
pub mod Held

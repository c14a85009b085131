pub mod Long
pub mod Tiering
pub mod Striking

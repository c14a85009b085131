pub mod Literals
pub mod Done
pub mod Ahead

pub mod Literals
pub mod Assessing
pub mod Emptying

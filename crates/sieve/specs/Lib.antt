pub mod Digits
pub mod Flags

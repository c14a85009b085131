pub mod Tally
pub mod Room
pub mod Lines

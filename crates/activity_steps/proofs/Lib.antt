pub mod Room
pub mod Decaying
pub mod Bumping

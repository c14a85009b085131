pub mod Recast
pub mod Facts
pub mod Parts
pub mod Whole
pub mod Refuse

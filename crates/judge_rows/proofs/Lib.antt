pub mod Places
pub mod Symmetric
pub mod Ways
pub mod Whole
pub mod Sparse
pub mod Numbering

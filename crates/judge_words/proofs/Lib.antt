pub mod Bisect
pub mod Clauses
pub mod Counting
pub mod Literals
pub mod Whole

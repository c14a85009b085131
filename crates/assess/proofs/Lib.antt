pub mod Glue
pub mod Ready
pub mod Short

pub mod Numbers
pub mod Lists
pub mod Patterns
pub mod Table
pub mod Read

pub mod Laying
pub mod Spelling
pub mod Listing

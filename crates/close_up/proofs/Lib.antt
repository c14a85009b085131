pub mod Laying
pub mod Closing
pub mod Rebuilding
pub mod Cases
pub mod Redirecting

pub mod Page
pub mod Numbers

pub mod Looking
pub mod Found

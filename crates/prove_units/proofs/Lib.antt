pub mod Reasons
pub mod Trail
pub mod Step
pub mod Lent
pub mod Answered

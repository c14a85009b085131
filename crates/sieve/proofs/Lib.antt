pub mod Flagging
pub mod Marking

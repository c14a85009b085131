pub mod OneRow
pub mod AllRows

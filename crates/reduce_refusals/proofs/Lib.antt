pub mod MidsRoom
pub mod Lines
pub mod Going
pub mod LocalsRoom
pub mod LocalsSums
pub mod LocalsNumber

pub mod Rows
pub mod Flown
pub mod Going
pub mod Writes
pub mod LetGo
pub mod Starting

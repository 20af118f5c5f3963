pub mod Limits
pub mod Appending

pub mod Calls
pub mod Media

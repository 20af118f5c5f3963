pub mod Told
pub mod Reader

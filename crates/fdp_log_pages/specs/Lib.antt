pub mod Told
pub mod Usages

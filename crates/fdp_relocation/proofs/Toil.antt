pub mod Wanted
pub mod Copied
pub mod Moved
pub mod Erased
pub mod Steps

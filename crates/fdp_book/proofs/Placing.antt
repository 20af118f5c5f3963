pub mod Fresh
pub mod Free
pub mod Nexts
pub mod Steps

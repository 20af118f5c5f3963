pub mod Copying
pub mod Erasing
pub mod Leaving
pub mod Ready
pub mod Step

pub mod Given
pub mod Spelled

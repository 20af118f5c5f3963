pub mod Berths
pub mod Written
pub mod Named
pub mod OutNames
pub mod Rest

pub mod Looking
pub mod Seals
pub mod Data

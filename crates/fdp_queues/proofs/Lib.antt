pub mod Data
pub mod Tags

pub mod GroupPasses
pub mod Due
pub mod Place
pub mod Room
pub mod Targets

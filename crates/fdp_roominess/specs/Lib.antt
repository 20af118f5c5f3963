pub mod Units
pub mod Room
pub mod Run
pub mod Capacity
pub mod Roomy

pub mod Completing
pub mod Features
pub mod Putting
pub mod Sounds
pub mod Stretches
pub mod Openings

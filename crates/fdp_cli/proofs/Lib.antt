pub mod Benches
pub mod GoingOn
pub mod Recorded
pub mod Shown

pub mod Taken
pub mod GoingOn

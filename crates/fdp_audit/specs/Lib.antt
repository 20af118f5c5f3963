pub mod Audit
pub mod Due
pub mod Steps

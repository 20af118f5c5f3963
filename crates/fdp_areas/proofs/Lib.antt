pub mod Walking
pub mod Looks
pub mod DataPages

pub mod Gathers
pub mod Rule
pub mod Seats
pub mod Steps

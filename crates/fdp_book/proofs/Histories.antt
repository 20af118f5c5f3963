pub mod Follows
pub mod Accepted
pub mod Commanded
pub mod Finding
pub mod Configuring

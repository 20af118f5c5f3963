pub mod Accepted
pub mod Appending
pub mod Closing
pub mod Choosing

pub mod Closes
pub mod Gathering
pub mod Moves
pub mod Shares
pub mod Turns

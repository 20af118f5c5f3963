pub mod Followed
pub mod Moves
pub mod Crowded
pub mod Toil

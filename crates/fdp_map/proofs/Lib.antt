pub mod Tables
pub mod Stored
pub mod Counted
pub mod Emptied
pub mod Vacant
pub mod Listing
pub mod Counting

pub mod Replies
pub mod Commands
pub mod Entries

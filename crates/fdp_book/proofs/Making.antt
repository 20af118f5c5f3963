pub mod Entries
pub mod Limits
pub mod KindBits
pub mod Accepted
pub mod Marking

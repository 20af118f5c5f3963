pub mod JournalState
pub mod Journal
pub mod Inside

pub mod Told
pub mod Uses
pub mod Start
pub mod WornOut
pub mod Counted
pub mod Emptied
pub mod Ledger
pub mod Calls

pub mod Played
pub mod Replayed

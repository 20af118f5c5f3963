pub mod Records
pub mod Replay

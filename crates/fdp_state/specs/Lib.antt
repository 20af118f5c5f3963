-- passed on to the crates above
pub use Rattle.fdp_replay.specs as fdp_replay
pub mod Good
pub mod Owners
pub mod Parts
pub mod Made
pub mod Loaded

-- passed on to the crates above
pub use Rattle.fdp_collector.specs as fdp_collector
pub mod PageTables
pub mod Joined
pub mod Steps
pub mod Leaving
pub mod Filling
pub mod Finding

-- passed on to the crates above
pub use Rattle.fdp_pages.specs.fdp_collector as fdp_collector
pub use Rattle.fdp_pages.specs as fdp_pages
pub use Rattle.fdp_recovery.specs as fdp_recovery
pub use Rattle.fdp_recovery.specs.fdp_state as fdp_state
pub mod Found
pub mod Walking

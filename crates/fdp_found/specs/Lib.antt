-- passed on to the crates above
pub use Rattle.fdp_opening.specs.fdp_collector as fdp_collector
pub use Rattle.fdp_locations.specs as fdp_locations
pub use Rattle.fdp_opening.specs as fdp_opening
pub use Rattle.fdp_opening.specs.fdp_pages as fdp_pages
pub use Rattle.fdp_opening.specs.fdp_recovery as fdp_recovery
pub use Rattle.fdp_opening.specs.fdp_state as fdp_state
pub use Rattle.fdp_locations.specs.fdp_trails as fdp_trails
pub mod Finding
pub mod Beginning
pub mod Opened
pub mod Told

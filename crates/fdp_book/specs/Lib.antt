-- passed on to the crates above
pub use Rattle.fdp_found.specs.fdp_collector as fdp_collector
pub use Rattle.fdp_found.specs as fdp_found
pub use Rattle.fdp_found.specs.fdp_locations as fdp_locations
pub use Rattle.fdp_found.specs.fdp_opening as fdp_opening
pub use Rattle.fdp_found.specs.fdp_pages as fdp_pages
pub use Rattle.fdp_readings.specs as fdp_readings
pub use Rattle.fdp_found.specs.fdp_recovery as fdp_recovery
pub use Rattle.fdp_found.specs.fdp_state as fdp_state
pub use Rattle.fdp_found.specs.fdp_trails as fdp_trails
pub mod Logged
pub mod Extent
pub mod Room
pub mod Configured
pub mod Book
pub mod FirstSteps
pub mod Tickets
pub mod Places
pub mod Steps
pub mod Commanded
pub mod Saving
pub mod Changes
pub mod Outlined
pub mod Reopened
pub mod Reading
pub mod Answering
pub mod Held
pub mod Applying
pub mod Flown
pub mod Stages
pub mod Forgetting
pub mod Taking
pub mod Clearing
pub mod Namespaces
pub mod Shutting
pub mod Updating
pub mod Relocating
pub mod Moving

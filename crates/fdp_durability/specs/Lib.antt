-- passed on to the crates above
pub use Rattle.fdp_saving.specs.fdp_checkpoint as fdp_checkpoint
pub use Rattle.fdp_readings.specs.fdp_collector as fdp_collector
pub use Rattle.fdp_saving.specs.fdp_journal as fdp_journal
pub use Rattle.fdp_readings.specs.fdp_locations as fdp_locations
pub use Rattle.fdp_readings.specs.fdp_pages as fdp_pages
pub use Rattle.fdp_readings.specs as fdp_readings
pub use Rattle.fdp_saving.specs as fdp_saving
pub use Rattle.fdp_readings.specs.fdp_trails as fdp_trails
pub mod Firm
pub mod Beginnings
pub mod Durable
pub mod Saved

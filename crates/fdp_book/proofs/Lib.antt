-- passed on to the crates above
pub use Rattle.fdp_found.proofs.fdp_collector as fdp_collector
pub use Rattle.fdp_found.proofs as fdp_found
pub use Rattle.fdp_found.proofs.fdp_locations as fdp_locations
pub use Rattle.fdp_found.proofs.fdp_pages as fdp_pages
pub use Rattle.fdp_readings.proofs as fdp_readings
pub use Rattle.fdp_found.proofs.fdp_trails as fdp_trails
pub mod Outlining
pub mod Telling
pub mod Making
pub mod Looking
pub mod Kept
pub mod Leading
pub mod Flights
pub mod Placing
pub mod Committing
pub mod Clearing
pub mod Releasing
pub mod Deleting
pub mod Answering
pub mod Applying
pub mod Held
pub mod Reading
pub mod Forgetting
pub mod Ending
pub mod Longer
pub mod Shutting
pub mod Histories
pub mod Space
pub mod Crowding
pub mod Relocating
pub mod Saving
pub mod Numbers
pub mod Updating
pub mod PageChanges

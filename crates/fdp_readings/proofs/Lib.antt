-- passed on to the crates above
pub use Rattle.fdp_locations.proofs.fdp_collector as fdp_collector
pub use Rattle.fdp_locations.proofs as fdp_locations
pub use Rattle.fdp_locations.proofs.fdp_pages as fdp_pages
pub use Rattle.fdp_locations.proofs.fdp_trails as fdp_trails
pub mod Drawing
pub mod Sizes
pub mod Leading
pub mod Keeping
pub mod Staying
pub mod Saving
pub mod Moving
pub mod Passing
pub mod Commanding
pub mod Ways
pub mod Fitting

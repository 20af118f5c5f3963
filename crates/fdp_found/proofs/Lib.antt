-- passed on to the crates above
pub use Rattle.fdp_opening.proofs.fdp_collector as fdp_collector
pub use Rattle.fdp_locations.proofs as fdp_locations
pub use Rattle.fdp_opening.proofs as fdp_opening
pub use Rattle.fdp_opening.proofs.fdp_pages as fdp_pages
pub use Rattle.fdp_opening.proofs.fdp_state as fdp_state
pub use Rattle.fdp_locations.proofs.fdp_trails as fdp_trails
pub mod Listing
pub mod Lists
pub mod Blocks
pub mod Stating
pub mod Reading
pub mod Ordering
pub mod Loaded
pub mod Paging
pub mod Leading
pub mod Pointing
pub mod Opening
pub mod Reopening
pub mod Telling
pub mod Bridging

-- passed on to the crates above
pub use Rattle.fdp_pages.proofs.fdp_collector as fdp_collector
pub use Rattle.fdp_pages.proofs as fdp_pages
pub use Rattle.fdp_trails.proofs as fdp_trails
pub mod Handled
pub mod Grouped
pub mod Held
pub mod Histories
pub mod Kept
pub mod Taken
pub mod Units
pub mod Placed
pub mod Relocated
pub mod Ended
pub mod Owned
pub mod Others
pub mod Copying
pub mod Ending
pub mod Storing
pub mod Left
pub mod Set

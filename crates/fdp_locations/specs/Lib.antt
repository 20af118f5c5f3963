-- passed on to the crates above
pub use Rattle.fdp_pages.specs.fdp_collector as fdp_collector
pub use Rattle.fdp_pages.specs as fdp_pages
pub use Rattle.fdp_trails.specs as fdp_trails
pub mod Written
pub mod Held
pub mod Located
pub mod Stored
pub mod Taken

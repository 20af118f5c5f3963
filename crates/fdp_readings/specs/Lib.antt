-- passed on to the crates above
pub use Rattle.fdp_locations.specs.fdp_collector as fdp_collector
pub use Rattle.fdp_locations.specs as fdp_locations
pub use Rattle.fdp_locations.specs.fdp_pages as fdp_pages
pub use Rattle.fdp_locations.specs.fdp_trails as fdp_trails
pub mod Changes
pub mod Drawn
pub mod Holding
pub mod Lasting
pub mod Named
pub mod Ways

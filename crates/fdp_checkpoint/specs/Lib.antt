-- passed on to the crates above
pub use Rattle.fdp_areas.specs as fdp_areas
pub mod Ends
pub mod Pages
pub mod Slices
pub mod Target
pub mod Writing

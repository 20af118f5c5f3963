-- passed on to the crates above
pub use Rattle.fdp_areas.proofs as fdp_areas
pub mod Collecting
pub mod Telling
pub mod OfImage
pub mod Areas
pub mod SealedAnew
pub mod Steps
pub mod Sliced
pub mod Frozen
pub mod Staying
pub mod Counted

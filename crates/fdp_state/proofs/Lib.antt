-- passed on to the crates above
pub use Rattle.fdp_events.proofs as fdp_events
pub mod Collecting
pub mod Editing
pub mod Filling
pub mod Listing
pub mod Loadable
pub mod Making
pub mod MovedBlocks
pub mod Moving
pub mod Named
pub mod Owning
pub mod Places
pub mod Putting
pub mod Spacing
pub mod Keeping
pub mod Sayable
pub mod Stating
pub mod Loading

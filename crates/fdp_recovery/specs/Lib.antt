-- passed on to the crates above
pub use Rattle.fdp_checkpoint.specs.fdp_areas as fdp_areas
pub use Rattle.fdp_state.specs as fdp_state
pub mod Keys
pub mod Blocks
pub mod Walking
pub mod Sound
pub mod Bad
pub mod Ready
pub mod Opened
pub mod Taken
pub mod Reading

-- passed on to the crates above
pub use Rattle.fdp_state.proofs as fdp_state
pub mod Ends
pub mod SameKeys
pub mod Fielded
pub mod Judged
pub mod Replayed
pub mod Kept
pub mod Marking
pub mod Bounds
pub mod Sound
pub mod Passing
pub mod Valid
pub mod SameDrive
pub mod Taken

-- passed on to the crates above
pub use Rattle.fdp_collector.proofs as fdp_collector
pub mod Places
pub mod Counts
pub mod Groups
pub mod Fitting
pub mod Owning
pub mod Recounting
pub mod Filling
pub mod Moving
pub mod Used
pub mod Next
pub mod Handled
pub mod Placed
pub mod Released
pub mod Regrouped
pub mod InOrder
pub mod Inside
pub mod Worked
pub mod Added
pub mod Advanced
pub mod Fresh
pub mod Held
pub mod Lives
pub mod Found
pub mod LeftUnits
pub mod Untargeted
pub mod Classed

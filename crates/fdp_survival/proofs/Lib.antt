-- passed on to the crates above
pub use Rattle.fdp_durability.proofs as fdp_durability
pub use Rattle.fdp_isolation.proofs as fdp_isolation
pub mod Images
pub mod Apart
pub mod Saying
pub mod Units
pub mod Safe
pub mod Relocated
pub mod Savings
pub mod Orders
pub mod Steps

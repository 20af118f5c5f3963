-- passed on to the crates above
pub use Rattle.fdp_workers.proofs.fdp_core as fdp_core
pub use Rattle.fdp_workers.proofs.fdp_loading as fdp_loading
pub use Rattle.fdp_workers.proofs.fdp_outline as fdp_outline
pub use Rattle.fdp_workers.proofs.fdp_survival as fdp_survival
pub mod Came
pub mod Charging
pub mod Items
pub mod Outlasting
pub mod Stepping

-- passed on to the crates above
pub use Rattle.fdp_pages.proofs.fdp_collector as fdp_collector
pub use Rattle.fdp_pages.proofs as fdp_pages
pub use Rattle.fdp_recovery.proofs as fdp_recovery
pub use Rattle.fdp_recovery.proofs.fdp_state as fdp_state
pub mod Scanned
pub mod Ways
pub mod Owning
pub mod Looking
pub mod Mapping

-- passed on to the crates above
pub use Rattle.fdp_workers.specs.fdp_book as fdp_book
pub use Rattle.fdp_workers.specs.fdp_core as fdp_core
pub use Rattle.fdp_workers.specs.fdp_isolation as fdp_isolation
pub use Rattle.fdp_workers.specs.fdp_ledger as fdp_ledger
pub use Rattle.fdp_workers.specs.fdp_loading as fdp_loading
pub use Rattle.fdp_workers.specs.fdp_recovery as fdp_recovery
pub use Rattle.fdp_workers.specs.fdp_roominess as fdp_roominess
pub use Rattle.fdp_workers.specs.fdp_survival as fdp_survival
pub use Rattle.fdp_workers.specs as fdp_workers
pub mod Board

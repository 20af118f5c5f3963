-- passed on to the crates above
pub use Rattle.fdp_core.specs.fdp_book as fdp_book
pub use Rattle.fdp_core.specs.fdp_collector as fdp_collector
pub use Rattle.fdp_core.specs as fdp_core
pub use Rattle.fdp_core.specs.fdp_isolation as fdp_isolation
pub use Rattle.fdp_core.specs.fdp_ledger as fdp_ledger
pub use Rattle.fdp_core.specs.fdp_loading as fdp_loading
pub use Rattle.fdp_core.specs.fdp_recovery as fdp_recovery
pub use Rattle.fdp_core.specs.fdp_relocation as fdp_relocation
pub use Rattle.fdp_core.specs.fdp_roominess as fdp_roominess
pub use Rattle.fdp_core.specs.fdp_survival as fdp_survival
pub mod Hosting
pub mod Marks
pub mod Pairs
pub mod Queues
pub mod Run
pub mod Turns

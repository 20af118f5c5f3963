-- passed on to the crates above
pub use Rattle.fdp_keeper.specs.fdp_book as fdp_book
pub use Rattle.fdp_survival.specs.fdp_collector as fdp_collector
pub use Rattle.fdp_survival.specs.fdp_isolation as fdp_isolation
pub use Rattle.fdp_ledger.specs as fdp_ledger
pub use Rattle.fdp_keeper.specs.fdp_recovery as fdp_recovery
pub use Rattle.fdp_survival.specs as fdp_survival
pub mod Begun
pub mod Loaded
pub mod Faults
pub mod Opens
pub mod Refused
pub mod Made
pub mod JournalRoom

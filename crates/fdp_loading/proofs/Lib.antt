-- passed on to the crates above
pub use Rattle.fdp_survival.proofs.fdp_durability as fdp_durability
pub use Rattle.fdp_survival.proofs.fdp_isolation as fdp_isolation
pub use Rattle.fdp_ledger.proofs as fdp_ledger
pub use Rattle.fdp_keeper.proofs.fdp_outline as fdp_outline
pub use Rattle.fdp_survival.proofs as fdp_survival
pub mod JournalRoom
pub mod Looked
pub mod Drawing
pub mod Blank
pub mod Unwritten
pub mod Opened
pub mod Over
pub mod Opens
pub mod Checkpointed

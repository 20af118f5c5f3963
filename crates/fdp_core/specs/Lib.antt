-- passed on to the crates above
pub use Rattle.fdp_loading.specs.fdp_book as fdp_book
pub use Rattle.fdp_loading.specs.fdp_collector as fdp_collector
pub use Rattle.fdp_loading.specs.fdp_isolation as fdp_isolation
pub use Rattle.fdp_loading.specs.fdp_ledger as fdp_ledger
pub use Rattle.fdp_loading.specs as fdp_loading
pub use Rattle.fdp_loading.specs.fdp_recovery as fdp_recovery
pub use Rattle.fdp_relocation.specs as fdp_relocation
pub use Rattle.fdp_roominess.specs as fdp_roominess
pub use Rattle.fdp_loading.specs.fdp_survival as fdp_survival
pub mod Seen
pub mod Steps
pub mod Fetches
pub mod ReadSteps
pub mod Silence
pub mod Passes
pub mod Answers
pub mod Ending
pub mod Sound
pub mod Stops
pub mod Advancing
pub mod Loading

-- passed on to the crates above
pub use Rattle.fdp_checkpoint.specs as fdp_checkpoint
pub use Rattle.fdp_journal.specs as fdp_journal
pub mod Calls
pub mod Said
pub mod Saver
pub mod Saving

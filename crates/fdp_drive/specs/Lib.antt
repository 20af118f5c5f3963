-- passed on to the crates above
pub use Rattle.fdp_board.specs as fdp_board
pub use Rattle.fdp_board.specs.fdp_book as fdp_book
pub use Rattle.fdp_board.specs.fdp_core as fdp_core
pub use Rattle.fdp_crews.specs as fdp_crews
pub use Rattle.fdp_board.specs.fdp_isolation as fdp_isolation
pub use Rattle.fdp_board.specs.fdp_ledger as fdp_ledger
pub use Rattle.fdp_board.specs.fdp_loading as fdp_loading
pub use Rattle.fdp_board.specs.fdp_recovery as fdp_recovery
pub use Rattle.fdp_board.specs.fdp_roominess as fdp_roominess
pub use Rattle.fdp_board.specs.fdp_survival as fdp_survival
pub use Rattle.fdp_board.specs.fdp_workers as fdp_workers
pub mod Session

-- passed on to the crates above
pub use Rattle.fdp_board.proofs as fdp_board
pub use Rattle.fdp_board.proofs.fdp_core as fdp_core
pub use Rattle.fdp_board.proofs.fdp_loading as fdp_loading
pub use Rattle.fdp_board.proofs.fdp_outline as fdp_outline
pub use Rattle.fdp_board.proofs.fdp_survival as fdp_survival
mod Made

-- passed on to the crates above
pub use Rattle.fdp_core.proofs as fdp_core
pub use Rattle.fdp_core.proofs.fdp_durability as fdp_durability
pub use Rattle.fdp_core.proofs.fdp_loading as fdp_loading
pub use Rattle.fdp_core.proofs.fdp_outline as fdp_outline
pub use Rattle.fdp_core.proofs.fdp_survival as fdp_survival
pub mod Marks
pub mod Nexts
pub mod Pairing
pub mod Posts
pub mod Progressing
pub mod Seated
pub mod Seating
pub mod Serving
pub mod Turning

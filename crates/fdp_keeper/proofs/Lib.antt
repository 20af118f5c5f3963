-- passed on to the crates above
pub use Rattle.fdp_book.proofs as fdp_book
pub use Rattle.fdp_book.proofs.fdp_collector as fdp_collector
pub use Rattle.fdp_durability.proofs as fdp_durability
pub use Rattle.fdp_book.proofs.fdp_found as fdp_found
pub use Rattle.fdp_book.proofs.fdp_locations as fdp_locations
pub use Rattle.fdp_outline.proofs as fdp_outline
pub use Rattle.fdp_book.proofs.fdp_pages as fdp_pages
pub use Rattle.fdp_book.proofs.fdp_readings as fdp_readings
pub use Rattle.fdp_durability.proofs.fdp_saving as fdp_saving
pub use Rattle.fdp_book.proofs.fdp_trails as fdp_trails
pub mod Given
pub mod Parts
pub mod PageSets
pub mod Copies
pub mod Runs
pub mod Numbers
pub mod Moved
pub mod Naming

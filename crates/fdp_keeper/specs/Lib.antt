-- passed on to the crates above
pub use Rattle.fdp_book.specs as fdp_book
pub use Rattle.fdp_book.specs.fdp_collector as fdp_collector
pub use Rattle.fdp_durability.specs as fdp_durability
pub use Rattle.fdp_book.specs.fdp_found as fdp_found
pub use Rattle.fdp_durability.specs.fdp_journal as fdp_journal
pub use Rattle.fdp_book.specs.fdp_locations as fdp_locations
pub use Rattle.fdp_book.specs.fdp_opening as fdp_opening
pub use Rattle.fdp_outline.specs as fdp_outline
pub use Rattle.fdp_book.specs.fdp_pages as fdp_pages
pub use Rattle.fdp_book.specs.fdp_readings as fdp_readings
pub use Rattle.fdp_book.specs.fdp_recovery as fdp_recovery
pub use Rattle.fdp_durability.specs.fdp_saving as fdp_saving
pub use Rattle.fdp_book.specs.fdp_state as fdp_state
pub use Rattle.fdp_book.specs.fdp_trails as fdp_trails
pub mod Keeper
pub mod Ready
pub mod Moves

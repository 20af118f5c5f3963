-- passed on to the crates above
pub use Rattle.fdp_keeper.specs.fdp_book as fdp_book
pub use Rattle.fdp_keeper.specs.fdp_collector as fdp_collector
pub use Rattle.fdp_keeper.specs.fdp_durability as fdp_durability
pub use Rattle.fdp_keeper.specs.fdp_journal as fdp_journal
pub use Rattle.fdp_keeper.specs as fdp_keeper
pub use Rattle.fdp_keeper.specs.fdp_locations as fdp_locations
pub use Rattle.fdp_keeper.specs.fdp_outline as fdp_outline
pub use Rattle.fdp_keeper.specs.fdp_pages as fdp_pages
pub use Rattle.fdp_keeper.specs.fdp_readings as fdp_readings
pub use Rattle.fdp_keeper.specs.fdp_recovery as fdp_recovery
pub use Rattle.fdp_keeper.specs.fdp_saving as fdp_saving
pub use Rattle.fdp_keeper.specs.fdp_trails as fdp_trails
pub mod Collected
pub mod Toil
pub mod Entries

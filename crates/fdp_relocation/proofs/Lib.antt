-- passed on to the crates above
pub use Rattle.fdp_keeper.proofs.fdp_book as fdp_book
pub use Rattle.fdp_keeper.proofs.fdp_collector as fdp_collector
pub use Rattle.fdp_keeper.proofs.fdp_durability as fdp_durability
pub use Rattle.fdp_keeper.proofs.fdp_locations as fdp_locations
pub use Rattle.fdp_keeper.proofs.fdp_readings as fdp_readings
pub use Rattle.fdp_keeper.proofs.fdp_saving as fdp_saving
pub use Rattle.fdp_keeper.proofs.fdp_trails as fdp_trails
pub mod Moving
pub mod Toil
pub mod Telling
pub mod Keeping
pub mod Resting
pub mod Erasing
pub mod Kept
pub mod Storing
pub mod Ends

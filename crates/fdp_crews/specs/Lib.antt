-- passed on to the crates above
pub use Rattle.fdp_workers.specs.fdp_book as fdp_book
pub use Rattle.fdp_workers.specs.fdp_core as fdp_core
pub use Rattle.fdp_workers.specs as fdp_workers
pub mod Crews
pub mod Leaving
pub mod Rooms
pub mod Shifts

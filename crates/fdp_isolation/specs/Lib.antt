-- passed on to the crates above
pub use Rattle.fdp_book.specs as fdp_book
pub mod Isolated
pub mod Laned
pub mod Alone
pub mod Apart
pub mod Begun
pub mod Reads
pub mod Stays

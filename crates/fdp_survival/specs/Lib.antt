-- passed on to the crates above
pub use Rattle.fdp_durability.specs.fdp_collector as fdp_collector
pub use Rattle.fdp_isolation.specs as fdp_isolation
pub mod Apart
pub mod Safe
pub mod Books

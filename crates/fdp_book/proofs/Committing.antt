pub mod Points
pub mod PutPages
pub mod Verdicts

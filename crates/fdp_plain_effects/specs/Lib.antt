pub mod Rows
pub mod Going
pub mod Ready
pub mod Making

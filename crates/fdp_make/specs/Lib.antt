pub mod Load
pub mod Served
pub mod Summary
pub mod Table

pub mod States
pub mod Groups
pub mod Chosen
pub mod Tables
pub mod Counted

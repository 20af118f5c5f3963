pub mod Steps
pub mod Cells
pub mod Placing
pub mod Leads
pub mod Moves
pub mod Staying

pub mod Phase
pub mod Rings
pub mod Data
pub mod Entry

pub mod Fresh
pub mod Events
pub mod Outline
pub mod Pages
pub mod Handles

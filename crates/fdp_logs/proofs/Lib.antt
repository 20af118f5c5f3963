pub mod Frames
pub mod Appending

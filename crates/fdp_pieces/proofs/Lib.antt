pub mod Putting

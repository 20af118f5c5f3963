pub mod Lists
pub mod Printed
pub mod Told
pub mod Whole

pub mod Drives
pub mod Words
pub mod InvalidIdentifier
pub mod ClosedUnits
pub mod FoundImage

pub mod Spaces
pub mod Blocks
pub mod FixedPart
pub mod Judging
pub mod RowsBack
pub mod RoundTrip
pub mod Words
pub mod StateRead

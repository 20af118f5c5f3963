pub mod Forms
pub mod Framing
pub mod Yielding
pub mod Form
pub mod Lines
pub mod Next
pub mod Entries
pub mod Record

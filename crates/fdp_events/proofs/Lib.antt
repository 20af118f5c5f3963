pub mod Events
pub mod KnownRows
pub mod MaskBits
pub mod Latest

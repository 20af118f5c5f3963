-- The reader's own words: what its private steps compute, from a word to a text. The contracts of these steps cite them,
-- and no public one does; what a trace is stands in Lines, Demands and Grammar alone.
pub mod NumberOf
pub mod FrontOf
pub mod Reading
pub mod Shapes
pub mod Commands
pub mod Line
pub mod Trace

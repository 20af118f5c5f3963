-- The reader's own words: what its private steps compute, key by key. The contracts of these steps cite them, and no public
-- one does; what a configuration text is stands in Spelling, and its faults in Faults.
pub mod Config
pub mod Checks
pub mod First

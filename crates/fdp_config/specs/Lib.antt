pub mod Document
pub mod Faults
pub mod Kinds
pub mod Ranges
pub mod Reader
pub mod Spelling
pub mod Table
pub mod Words

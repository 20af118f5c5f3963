pub mod GoesOn
pub mod Loading
pub mod Refusing
pub mod Session
pub mod Verdict
pub mod Top

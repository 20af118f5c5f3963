pub mod Decimals
pub mod Outputs
pub mod Judging
pub mod Verdicts
pub mod Following

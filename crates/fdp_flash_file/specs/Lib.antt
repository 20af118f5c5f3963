pub mod FlashFile
pub mod Head
pub mod PageStates
pub mod Places
pub mod Room
pub mod Taking

pub mod CommandData
pub mod CommandText
pub mod HistoryText
pub mod Output
pub mod RunOutput

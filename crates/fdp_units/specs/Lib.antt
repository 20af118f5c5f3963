pub mod DataUnits
pub mod GroupTable
pub mod UnitTable

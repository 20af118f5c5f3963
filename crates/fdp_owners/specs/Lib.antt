pub mod OwnerTable
pub mod Owned

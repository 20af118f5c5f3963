pub mod Counting
pub mod MapTable
pub mod PageLists

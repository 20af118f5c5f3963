pub mod Printed
pub mod Over
pub mod Read
pub mod Standing

pub mod Opened
pub mod Readings

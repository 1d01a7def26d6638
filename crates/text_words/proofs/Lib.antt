pub mod Trims
pub mod Words
pub mod Parts

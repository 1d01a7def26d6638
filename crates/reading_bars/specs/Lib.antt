pub mod Bars
pub mod Parts

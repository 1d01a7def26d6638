pub mod Records
pub mod Voltas
pub mod Fields
pub mod Parts
pub mod Whole

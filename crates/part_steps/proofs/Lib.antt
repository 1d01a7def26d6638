pub mod Registers
pub mod Measures

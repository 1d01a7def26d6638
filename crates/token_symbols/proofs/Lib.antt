mod Table
pub mod Symbols
mod Ratios

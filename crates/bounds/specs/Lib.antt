pub mod Weights
pub mod Ranges

pub mod Counting
pub mod Fits

pub mod Widths
pub mod Fields

pub mod Whites
pub mod Plain

pub mod Hyphens
pub mod Tokens
pub mod Plain

pub mod Tokens
pub mod Lines

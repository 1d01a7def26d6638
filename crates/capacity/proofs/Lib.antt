pub mod Free
pub mod Weights
pub mod Tokens

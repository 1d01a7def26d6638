pub mod Keys
pub mod Resolving
pub mod Places

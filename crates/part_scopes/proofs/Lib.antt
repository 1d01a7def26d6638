pub mod Places
pub mod Scopes

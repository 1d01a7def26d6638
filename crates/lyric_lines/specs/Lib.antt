pub mod Stands
pub mod Places
pub mod Lines

pub mod Sounding
pub mod Deferring

pub mod Stands
pub mod Places
pub mod Words
pub mod Singing

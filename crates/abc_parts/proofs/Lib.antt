pub mod Singing
pub mod Reading

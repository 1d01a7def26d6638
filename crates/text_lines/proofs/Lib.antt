pub mod LineEnds
pub mod Finding
pub mod Cleaning
pub mod Classes

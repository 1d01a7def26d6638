pub mod Classes
pub mod Bars
pub mod Tuplets

pub mod Counting
pub mod Room

pub mod Marks
pub mod Stops

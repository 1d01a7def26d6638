pub mod Stops
pub mod Walks

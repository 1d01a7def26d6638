pub mod Sizes
pub mod Founds
pub mod Frequent
pub mod Searches

pub mod Whole
pub mod Given

pub mod Fronts
pub mod Forward
pub mod Backward
pub mod Bars

pub mod Refusals
pub mod Numbered
pub mod Closed
pub mod Ratio
mod Bar
mod Ending
mod Plain
pub mod Sounding

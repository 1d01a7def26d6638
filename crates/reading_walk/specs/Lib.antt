pub mod Walk
pub mod Spans
pub mod Passes
pub mod Played

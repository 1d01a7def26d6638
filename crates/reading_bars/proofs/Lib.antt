pub mod Spans
pub mod Passes
pub mod Limits

pub mod Ends
pub mod Forward
pub mod Bars
pub mod Passes
pub mod Follow
pub mod Bound

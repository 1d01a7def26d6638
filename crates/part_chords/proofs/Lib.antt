pub mod Pitches
pub mod Pushing

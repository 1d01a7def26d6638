mod Dispatch
pub mod Chords
pub mod Past
mod Numbers

pub mod Pitches
pub mod Chords

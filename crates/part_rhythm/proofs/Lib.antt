pub mod Rhythm

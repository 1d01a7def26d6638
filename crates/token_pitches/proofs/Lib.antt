mod Letters
mod Accidentals
pub mod Octaves
pub mod InChord
pub mod Walk

pub mod MusicLines

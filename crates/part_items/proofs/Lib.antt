pub mod Music
pub mod Each
pub mod Rows
pub mod Turns

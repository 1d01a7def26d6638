pub mod Table
pub mod Encoded
pub mod Beams
pub mod Read

pub mod Tables
pub mod Zipped
pub mod Cuts
pub mod Bytes
pub mod Notes

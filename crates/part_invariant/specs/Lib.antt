pub mod Invariant
pub mod Appended
pub mod Lines

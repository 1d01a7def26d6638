pub mod Passes
pub mod Faults

pub mod Silent
pub mod Sounding
pub mod Owners
pub mod Whole

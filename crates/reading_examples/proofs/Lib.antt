pub mod Texts
pub mod FromCodes
pub mod Wholes
pub mod Calls

pub mod Log
pub mod Ends
pub mod Sections
pub mod Lines
pub mod All

pub mod Lists
pub mod Loops
pub mod Bytes
pub mod Spans
pub mod Orders
pub mod All

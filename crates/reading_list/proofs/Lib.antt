pub mod Above
pub mod Numbers
pub mod Copying

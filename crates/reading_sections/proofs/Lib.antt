pub mod Inside
pub mod Encoded

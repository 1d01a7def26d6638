pub mod Walks
pub mod Leaves
pub mod Again
pub mod Playing

pub mod Chains
pub mod Verses
pub mod Steps
pub mod Walk

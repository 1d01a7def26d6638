pub mod Blocks
pub mod Frame
pub mod Kinds
pub mod Demand

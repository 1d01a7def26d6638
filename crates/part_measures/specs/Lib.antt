pub mod Heads
pub mod Voltas

pub mod Notes
pub mod States

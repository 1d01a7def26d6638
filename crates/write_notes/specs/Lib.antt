pub mod Tables
pub mod Out

pub mod Written
pub mod Out
pub mod Sung
pub mod Leads

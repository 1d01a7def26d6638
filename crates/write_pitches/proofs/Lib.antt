pub mod Out
pub mod Leads

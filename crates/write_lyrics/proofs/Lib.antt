pub mod Out
pub mod Silent
pub mod Leads
pub mod Texts

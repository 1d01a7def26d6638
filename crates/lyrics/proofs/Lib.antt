pub mod Sheets
pub mod Rows
pub mod Items

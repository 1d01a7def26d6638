pub mod NameLaws
pub mod Tables

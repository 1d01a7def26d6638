pub mod PassLaws
pub mod KeyTexts
pub mod Walks

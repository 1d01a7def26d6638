pub mod Refusals
pub mod KeyRange
pub mod Arrangement
pub mod Free
pub mod Sung
pub mod Domain
pub mod Alike
pub mod Ties

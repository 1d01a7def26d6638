pub mod Tests
pub mod Room
pub mod Second
pub mod Order

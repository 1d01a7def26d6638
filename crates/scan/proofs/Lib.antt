pub mod Loop
pub mod Music
pub mod Room

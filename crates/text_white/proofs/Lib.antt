pub mod Whites

pub mod Packs

pub mod Parts
mod Records
mod Bytes
mod Places
mod InTurn

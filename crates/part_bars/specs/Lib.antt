pub mod Bars

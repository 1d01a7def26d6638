mod Inlines
mod Chorded
mod Opened

mod Cuts
mod Items
mod Bits
mod Reading
mod Shapes

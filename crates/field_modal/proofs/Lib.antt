mod Refusing
mod Texts

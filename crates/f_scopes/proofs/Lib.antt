pub mod Counting
pub mod Scoping
pub mod Referring
pub mod Refusing

pub mod Declared
pub mod Headers

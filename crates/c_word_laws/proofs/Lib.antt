pub mod Expressions
pub mod Units

pub mod Lists
pub mod Kinds
pub mod Expressions
pub mod Declarations
pub mod Statements
pub mod Units

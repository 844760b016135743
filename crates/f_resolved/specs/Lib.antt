pub mod Lists
pub mod Attributes
pub mod Kinds
pub mod Expressions
pub mod Declarations
pub mod Statements
pub mod Programs

pub mod Fronts
pub mod Expressions
pub mod Statements
pub mod Declarations
pub mod Units

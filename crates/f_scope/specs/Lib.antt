pub mod Rows
pub mod Tables
pub mod Own
pub mod UnitNames
pub mod BuiltIn
pub mod Program
pub mod Begun
pub mod Alone

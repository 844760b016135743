pub mod Elements
pub mod IntegerLaws
pub mod Runs
pub mod Strings

pub mod Counting
pub mod Statements
pub mod Externals
pub mod One
pub mod Many
pub mod OneList

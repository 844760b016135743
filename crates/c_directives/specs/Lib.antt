pub mod Reads
pub mod Headers
pub mod Texts
pub mod Directives
pub mod Conditions
pub mod Reading
pub mod Sorting
pub mod Replacement

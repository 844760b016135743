pub mod Course
pub mod Sheds

pub mod Lowered
pub mod Course

pub mod Shows
pub mod Course
pub mod Facts

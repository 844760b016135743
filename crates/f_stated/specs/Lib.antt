pub mod Said
pub mod Stated

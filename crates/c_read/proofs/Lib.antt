pub mod Deepening
pub mod Endings
pub mod Whole
pub mod Words

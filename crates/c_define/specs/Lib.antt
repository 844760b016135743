pub mod Definitions
pub mod Expansion
pub mod Numbers
pub mod Rescanning

pub mod Firsts
pub mod Sayings

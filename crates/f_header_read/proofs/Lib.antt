pub mod Prefixes
pub mod Suffixes

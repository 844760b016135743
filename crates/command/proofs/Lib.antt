pub mod Settings
pub mod Different
pub mod Unique

pub mod Breaking
pub mod Finding
pub mod Types
pub mod Levels

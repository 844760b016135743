pub mod Entities
pub mod Outward

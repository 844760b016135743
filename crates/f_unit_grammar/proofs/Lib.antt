pub mod Placed
pub mod Begun
pub mod Unique
pub mod Viable
pub mod Texts
pub mod FirstRule

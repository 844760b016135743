pub mod Followed
pub mod Suffices

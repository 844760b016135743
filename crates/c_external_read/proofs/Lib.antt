pub mod Counting
pub mod Entries
pub mod Files
pub mod Kept
pub mod Turns

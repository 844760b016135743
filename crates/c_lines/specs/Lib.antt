pub mod Rows
pub mod Rules
pub mod Heads
pub mod Headers

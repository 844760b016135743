pub mod Rows
pub mod Depth
pub mod Comes
pub mod Lawful
pub mod Exact
pub mod Framing

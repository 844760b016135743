pub mod Marking
pub mod Numbers
pub mod Edges
pub mod Search
pub mod Cycles
pub mod Waits
pub mod Behind

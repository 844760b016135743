pub mod Behaviour
pub mod Run
pub mod Follows

pub mod Leaves
pub mod Behaviour

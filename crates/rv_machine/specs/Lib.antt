pub mod State
pub mod Alu
pub mod Memory
pub mod Insns
pub mod Step
pub mod Loaded
pub mod Exec
pub mod Keeps

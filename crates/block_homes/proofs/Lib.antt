pub mod Lockstep
pub mod Naming

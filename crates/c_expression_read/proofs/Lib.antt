pub mod Chains
pub mod Entries
pub mod Heights
pub mod Levels
pub mod Loops
pub mod Runs
pub mod Shifts
pub mod Turns

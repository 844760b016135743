pub mod Loops
pub mod Chains
pub mod Turns
pub mod Found

pub mod Values
pub mod Puts
pub mod Steps
pub mod Sorted
pub mod Rescanned
pub mod Making

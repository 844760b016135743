pub mod Constants
pub mod Joining
pub mod Named
pub mod Putting
pub mod Numbered

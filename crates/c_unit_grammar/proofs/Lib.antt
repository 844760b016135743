pub mod Sound
pub mod Lengths
pub mod Beginnings
pub mod Again
pub mod File

pub mod Choosing
pub mod Complete
pub mod Folding
pub mod Lengths
pub mod Sound
pub mod Steps
pub mod Whole

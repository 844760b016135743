pub mod Straight
pub mod Names
pub mod Frames
pub mod Code
pub mod Room
pub mod Placed
pub mod Chain
pub mod Units

pub mod Units
pub mod Work
pub mod Run
pub mod Doing
pub mod Same
pub mod Like
pub mod Whole
pub mod Steps

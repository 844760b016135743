pub mod Fits
pub mod Room
pub mod Counts
pub mod Untaken
pub mod Composed

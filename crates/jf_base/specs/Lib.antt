pub mod Numbers
pub mod Tags
pub mod Limits
pub mod formers
